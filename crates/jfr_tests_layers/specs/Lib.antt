pub mod NoClasses
