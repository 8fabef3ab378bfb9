use Rattle.std.proofs.Common.{List, ℕ, [], Option, ap, ◌∙◌}
use Rattle.std.specs.Prelude.{unwrap_or}
use Rattle.std.proofs.lemmas.Option.{unwrap_or-slice_get}
use Rattle.hc_value.proofs.shape.nets_at.Goals as goal

pub returns-in-None : goal.returns-in-None
returns-in-None c = ap (λ (o : Option (List ℕ)). unwrap_or o []) c.in-None.ensures.value ∙ unwrap_or-slice_get c.args.at.now.objects c.args.k []
