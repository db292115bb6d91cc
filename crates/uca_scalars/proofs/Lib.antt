pub mod NfdScalars
