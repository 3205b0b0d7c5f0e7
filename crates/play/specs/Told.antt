-- What a text asks for, as the program has it.
use Rattle.play.specs.declared.asked.Asked.{Asked as Given}
use Rattle.play.specs.declared.asked.Asked.TheVariants as given
use Rattle.play.specs.Asked.{Asked, nothing, refused, runs}

abbrev pub asked_of : Given → Asked
asked_of given.Nothing = nothing
asked_of (given.Refused code message) = refused code.bytes message
asked_of (given.Runs checked) = runs checked
