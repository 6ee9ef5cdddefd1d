-- The rounding error of f32 arithmetic against fractions, with nothing assumed. A proof about a computation begins with Inputs and Operands, goes on
-- by Track, Quotients, Sums and Extremes, and ends in Near. The other modules are what these rest on.
pub mod Nearest
pub mod Units
pub mod RoundedTo
pub mod WholeNumbers
pub mod Addition
pub mod Multiplication
pub mod Division
pub mod Tests
pub mod Compare
pub mod IntegerParts
pub mod CommonDenominator
pub mod Approx
pub mod Near
pub mod Track
pub mod Quotients
pub mod Inputs
pub mod Operands
pub mod Sums
pub mod Extremes
