mod WordCopies
