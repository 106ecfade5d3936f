-- The layout as words.rt needs it, the check of a row, what a message does to the words, and what loops over the cards add up.
pub mod WordsLaws
pub mod RowCheck
pub mod Effects
pub mod Totals
