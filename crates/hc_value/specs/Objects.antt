-- The nets that stand for objects.
use Rattle.std.specs.Prelude.{◌≡◌, ◌<◌, ℕ, List, [], length, slice_index_or, All}
use Rattle.hc_value.specs.declared.objects.ObjectNets.{ObjectNets}

-- the nets of an object, by its number; one that isn't there has none
abbrev pub nets_of : ObjectNets → ℕ → List ℕ
nets_of at k = slice_index_or at.objects k []

-- so many nets, each of them among the first n
pub record AreNets (n many : ℕ) (nets : List ℕ) : Type 0 where
  pub count : length nets ≡ many
  pub there : All (λ k. k < n) nets

-- the two constants are among the first n nets
pub record HasConstants (n : ℕ) (at : ObjectNets) : Type 0 where
  pub zero : at.zero < n
  pub one : at.one < n
