pub mod OpcodeMap
pub mod Encoding
pub mod Decoding
pub mod Effects
pub mod Cycles
pub mod IndexRegisters
