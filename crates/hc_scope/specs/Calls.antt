-- The parameters of a macro, one after another.
use Rattle.std.specs.Prelude.{◌≡◌, ℕ, true, false, List, [], ◌∷◌, ◌++◌, map, Result, Ok, Err}
use Rattle.std.specs.List.{list_any}
use Rattle.std.specs.Str.{bytes_eq}
use denote.Bor.{Bor}
use Rattle.hc_tree.specs.declared.name.Ident.{Ident}
use Rattle.hc_tree.specs.declared.refusal.Rule.TheVariants.{S5}
use Rattle.hc_tree.specs.declared.refusal.Detail.TheVariants.{Name}
use Rattle.hc_tree.specs.declared.refusal.FrontErr.{FrontErr}
use Rattle.hc_tree.specs.declared.refusal.FrontErr.TheVariants.{Refused, NoMemory}

-- the texts of names
abbrev pub texts : List (Bor (List ℕ)) → List (List ℕ)
texts names = map (λ k. k.now) names

-- a name that differs from those before it is the last behind them; S5 where it doesn't
abbrev pub IsNoted : Ident → List (Bor (List ℕ)) → List (Bor (List ℕ)) → Result (Unit {0}) FrontErr → Type 0
IsNoted x old new (Ok u) = (list_any (bytes_eq x.name) (texts old) ≡ false) × (texts new ≡ texts old ++ x.name ∷ [])
IsNoted x old new (Err (Refused r)) = (list_any (bytes_eq x.name) (texts old) ≡ true) × (r ≡ record { rule = S5; place = x.place; detail = Name x.name })
IsNoted x old new (Err NoMemory) = Unit {0}
