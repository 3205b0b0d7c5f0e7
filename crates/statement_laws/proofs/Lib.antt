pub mod Answered
mod Keeping
mod KnownTypes
pub mod SoundLeaves
mod Limits
pub mod SoundNodes
mod SoundSelects
mod SoundTables
mod SoundTrees
mod SoundWrites
mod Singles
mod CheckExprs
mod CheckBodies
mod Checks
pub mod Steps
pub mod Expressions
pub mod RefusedBodies
pub mod Reading
pub mod Tokens
pub mod Refusals
pub mod RefusedLaw
pub mod Same
mod Sure
mod Alike
mod Values
mod Own
mod Claims
mod Nodes
mod Numbers
mod Leaves
mod Literals
mod Exprs
mod Tables
mod Effects
mod Selects
mod Writes
mod Trees
mod Grammar
mod GrammarStatements
mod Written
mod WrittenParts
mod WrittenStatements
mod AgainLaw
pub mod At
pub mod Kept
pub mod KeptStatements
pub mod Unbound
pub mod Draws
pub mod RunnableLaw
