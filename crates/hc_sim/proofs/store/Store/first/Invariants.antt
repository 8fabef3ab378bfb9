-- So far there is what the objects before this one hold.
use Rattle.std.proofs.Common.{◌≡◌, take}
use Rattle.std.specs.Prelude.{map}
use Rattle.hc_core.specs.Typed.{kinds_of}
use Rattle.hc_meaning.specs.Value.{initial}
use Rattle.hc_sim.proofs.store.Store.first.Given as goal

abbrev pub invariant-loop-object : goal.invariant-loop-object
invariant-loop-object l = map (λ v. v.items) l.words.items ≡ initial (kinds_of (take l.object-index l.objects))
