-- What is said of a parameter is the kind that the table gives it.
use Rattle.pool_config.specs.declared.parameter.Kind.{Kind}
use Rattle.pool_config.specs.declared.parameter.Kind.TheVariants as kind
use Rattle.pool_advice.specs.declared.wanted.Wanted.{Wanted}
use Rattle.pool_advice.specs.declared.wanted.Wanted.TheVariants.{Mode, HostName, Words, Number, Truth, OnlyOn, Verifier, Secret}

abbrev pub kind_wanted : Wanted → Kind
kind_wanted Mode = kind.Mode
kind_wanted HostName = kind.HostName
kind_wanted Words = kind.Words
kind_wanted (Number low high) = kind.Number low high
kind_wanted Truth = kind.Truth
kind_wanted OnlyOn = kind.OnlyOn
kind_wanted Verifier = kind.Verifier
kind_wanted Secret = kind.Secret
