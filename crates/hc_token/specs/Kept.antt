-- What nets keep where a circuit stays: that they are there, that they reach no placeholder, and that they are constants.
use Rattle.std.proofs.Common.{◌<◌, ℕ, List, length, true, false, arith}
use Rattle.std.specs.Prelude.{All}
use Rattle.std.proofs.lemmas.List.Elements.{All-weaker}
use Rattle.hc_net.specs.Frame.{Keeps, keeps_within}
use Rattle.hc_net.specs.Seal.{Within}
use Rattle.hc_net.specs.declared.node.Node.{Node}
use Rattle.hc_token.specs.Control.{IsNever, IsAlways}

pub there_kept : {old new : List Node} → Keeps old new → (k : ℕ) → k < length old → k < length new
there_kept keeps k lt = let longer = keeps.longer in omega arith

pub all_there_kept : {old new : List Node} → Keeps old new → (nets : List ℕ) → All (λ k. k < length old) nets → All (λ k. k < length new) nets
all_there_kept keeps nets all = All-weaker (λ k. k < _) (λ k. k < _) (there_kept keeps) nets all

pub all_within_kept : {old new : List Node} → Keeps old new → (nets : List ℕ) → All (Within old 0) nets → All (Within new 0) nets
all_within_kept keeps nets all = All-weaker (Within _ 0) (Within _ 0) (keeps_within keeps) nets all

pub never_kept : {old new : List Node} → Keeps old new → (k : ℕ) → IsNever old k → IsNever new k
never_kept keeps k is = keeps.constant k false is

pub always_kept : {old new : List Node} → Keeps old new → (k : ℕ) → IsAlways old k → IsAlways new k
always_kept keeps k is = keeps.constant k true is
