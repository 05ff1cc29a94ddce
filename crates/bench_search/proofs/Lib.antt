pub mod EachCalls
