-- A table of words in the code is the list of the definition.
use Rattle.std.proofs.Common.{◌≡◌, ℕ, Bool, true, false, List, [], ◌∷◌, Option, Some, refl, Bor}
use Rattle.std.specs.Prelude.{option_map, find, cond}
use Rattle.std.specs.Str.{bytes_eq}
use Rattle.hc_grammar.specs.declared.kind.Kind.{Kind}
use Rattle.hc_grammar.specs.Kind.{listed, entries}

chosen : (b : Bool) (e : Bor (List ℕ) × Kind) (found : Option (Bor (List ℕ) × Kind)) (known : Option (List ℕ × Kind)) → option_map (λ e. e.1) found ≡ option_map (λ e. e.1) known
    → option_map (λ e. e.1) (cond b (Some e) found) ≡ option_map (λ e. e.1) (cond b (Some (e.0.now, e.1)) known)
chosen true e found known same = refl
chosen false e found known same = same

pub finds : (table : List (Bor (List ℕ) × Kind)) (word : List ℕ) → option_map (λ e. e.1) (find (λ e. bytes_eq e.0.now word) table) ≡ listed (entries table) word
finds [] word = refl
finds (e ∷ table) word = chosen (bytes_eq e.0.now word) e (find (λ e. bytes_eq e.0.now word) table) (find (λ e. bytes_eq e.0 word) (entries table)) (finds table word)
