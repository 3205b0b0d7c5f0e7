-- The store that a store in memory means.
use Rattle.backend_trait.specs.Store.{Store}
use Rattle.outcomes.specs.Next.{next_of}
use Rattle.model_store.specs.declared.store.MemoryStore.{MemoryStore}
use Rattle.model_store.specs.Seats.{store_of}

abbrev pub meaning : MemoryStore → Store
meaning store = store_of (next_of store.numbers) store.catalogue store.log.items store.seats.items store.is_lost
