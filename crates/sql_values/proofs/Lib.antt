mod Chains
mod Forms
mod Junctions
mod Members
mod Numbers
