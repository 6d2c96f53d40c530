pub mod StackOperations
pub mod NativeStates
pub mod ByteMachine
pub mod PartMachine
pub mod WasmMachine
