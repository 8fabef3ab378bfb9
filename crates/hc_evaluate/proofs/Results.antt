-- Facts about answers that are given.
use Rattle.std.proofs.Common.{Result, Ok, Err, IfOk}

-- what follows from a fact of each answer is one too
pub if_ok_then : {A E : Type 0} (r : Result A E) (P Q : A → Type 0) → IfOk r P → ((a : A) → P a → Q a) → IfOk r Q
if_ok_then (Ok a) P Q is each = each a is
if_ok_then (Err e) P Q is each = tt
