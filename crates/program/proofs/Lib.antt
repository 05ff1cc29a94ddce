pub mod PrintAll
