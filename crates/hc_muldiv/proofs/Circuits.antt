-- Circuits over chosen nets of others.
use Rattle.std.proofs.Common.{ℕ, ◌+◌, List, ◌++◌, length, Bool, subst, arith, length-append}
use Rattle.std.specs.Prelude.{All}
use Rattle.std.proofs.lemmas.List.{get_or-append-add, get_or_append_left}
use Rattle.hc_net.specs.Circuit.{Circuit}
use Rattle.hc_net.specs.Made.{Over, Makes}
use Rattle.hc_net.specs.MadeLemmas.{Over-self, Over-over, Adds-over}
use Rattle.hc_net.specs.declared.node.Node.{Node}

-- the second part of a list
pub All-right : {X : Type 0} (P : X → Type 0) (xs ys : List X) → All P (xs ++ ys) → All P ys
All-right P xs ys all i d within = subst P (get_or-append-add xs ys i d) (all (length xs + i) d (omega (arith, length-append xs ys, within)))

pub Over-right : {nodes : List Node} (xs ys : List ℕ) → All (Over nodes (xs ++ ys)) ys
Over-right {nodes} xs ys = All-right (Over nodes (xs ++ ys)) xs ys (Over-self (xs ++ ys))

-- a circuit over nets that are over others
pub Makes-over : {m : ℕ} {args wide nets : List ℕ} {old new : Circuit} {holds : (ℕ → Bool) → Type 0}
    → Makes m args old new nets holds → All (Over old.nodes wide) args → Makes m wide old new nets holds
Makes-over {args = args} a over = record {
  adds = a.adds;
  there = a.there;
  reach = λ i d within. Over-over (Adds-over args a.adds over) (a.reach i d within);
  value = a.value;
}

-- the first part of a list
pub All-left : {X : Type 0} (P : X → Type 0) (xs ys : List X) → All P (xs ++ ys) → All P xs
All-left P xs ys all i d within = subst P (get_or_append_left xs ys d i within) (all i d (omega (arith, length-append xs ys, within)))
