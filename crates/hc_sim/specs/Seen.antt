-- What expressions are read in, as the clock law has it.
use Rattle.std.specs.Prelude.{◌≡◌}
use Rattle.hc_core.specs.Typed.{kinds_of}
use Rattle.hc_meaning.specs.Value as meaning
use Rattle.hc_meaning.specs.Value.{word_in}
use Rattle.hc_sim.specs.Readable.{IsReadable, input_places}
use Rattle.hc_sim.specs.declared.world.World.{World}

-- the world that is read: the words of RAMs and ROMs are those of the store
abbrev pub seen : World → meaning.World
seen w = record { kinds = kinds_of w.objects.now; store = w.store.now; inputs = w.inputs.now; instant = w.instant.now; word = word_in w.store.now }

-- it can be read: its numbers have their types, and the place of each input is known
pub record CanRead (w : World) : Type 0 where
  pub readable : IsReadable (seen w)
  pub places : w.places.now ≡ input_places (kinds_of w.objects.now)
