pub mod BenchSearch
