-- Where rows stand.
use Rattle.backend_trait.specs.Keys.{Place, place}
use Rattle.outcomes.specs.declared.spot.Spot.{Spot}

abbrev pub place_of : Spot → Place
place_of spot = place spot.table spot.key
