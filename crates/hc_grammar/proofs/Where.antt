-- Where the reading stops is the first token with which the tokens so far begin no form.
use Rattle.std.proofs.Common.{◌≡◌, ◌<◌, ◌+◌, ◌-◌, suc, Bool, List, [], ◌∷◌, ◌++◌, length, take, refl, sym, ap, ◌∙◌, subst, append_assoc, append-nil, length-append, arith}
use Rattle.std.proofs.Math.Seq.{take-append-add, take-append_seam}
use Rattle.hc_grammar.specs.Table.{Grammar, front, Reads, Stops, IsStop, IsLongest, Begins}
use Rattle.hc_grammar.specs.LastReadings.{reads-same, never-both, taken-by, stopped-by}
use Rattle.hc_grammar.specs.LastTable.{MayBeEmpty, reads-spells, reads-last}
use Rattle.hc_grammar.proofs.Endings.{Endings, completed-by}

-- the number of tokens before the rest
count : {A : Type 0} (ts taken rest : List A) → ts ≡ taken ++ rest → length ts - length rest ≡ length taken
count ts taken rest is = omega (arith, ap length is, length-append taken rest)

front-is : {A : Type 0} (ts taken rest : List A) → ts ≡ taken ++ rest → take (length ts - length rest) ts ≡ taken
front-is ts taken rest is = rw (count ts taken rest is, is) (take-append_seam taken rest)

one-more : {A : Type 0} (ts taken rest : List A) → ts ≡ taken ++ rest → length ts - length rest < length ts
    → (t : A) × (tail : List A) × (rest ≡ t ∷ tail) × (take (suc (length ts - length rest)) ts ≡ taken ++ (t ∷ []))
one-more ts taken [] is more = absurd (omega (arith, more))
one-more ts taken (t ∷ tail) is more =
    let next : suc (length taken) ≡ length taken + 1 = omega arith in
    (t, tail, refl, rw (count ts taken (t ∷ tail) is, is, next) (take-append-add taken (t ∷ tail) 1))

no-front : {A : Type 0} (t : A) (more : List A) → (t ∷ []) ++ more ≡ [] → ⊥
no-front t more none = absurd cc

module _ (g : Grammar) (may : g.Form → Bool) (known : MayBeEmpty g may) where
  -- behind what was read no other token goes on
  read-refused : {f : g.Form} {ts : List g.Token} {v : g.Gives f} {rest : List g.Token} → Reads g f ts v rest
      → length ts - length rest < length ts → ¬ Begins g f (take (suc (length ts - length rest)) ts)
  read-refused {f = f} {ts = ts} {v = v} {rest = rest} a more (behind, w, whole) =
      let it = taken-by g a in
      let next = one-more ts it.taken rest it.is more in
      let here = it.before ((next.0 ∷ []) ++ behind) (ap front (sym next.2)) in
      let there : Reads g f (it.taken ++ ((next.0 ∷ []) ++ behind)) w [] =
      subst (λ ts. Reads g f ts w []) (ap (λ ts. ts ++ behind) next.3 ∙ append_assoc it.taken (next.0 ∷ []) behind) whole in
      no-front next.0 behind (reads-same g here there).1

  pub reads-stop : {f : g.Form} {ts : List g.Token} {v : g.Gives f} {rest : List g.Token} → Reads g f ts v rest → IsStop g f ts (length ts - length rest)
  reads-stop {f = f} {ts = ts} {v = v} {rest = rest} a =
      let it = taken-by g a in
      let d = length ts - length rest in
      let far : length ts ≡ d + length rest = omega (arith, ap length it.is, length-append it.taken rest) in
      record {
        within = omega arith;
        begins = ([], v, subst (λ ts. Reads g f ts v []) (sym (append-nil (take d ts))) (reads-spells g may known a d far));
        refused = read-refused a;
      }

  pub reads-longest : {f : g.Form} {ts : List g.Token} {v : g.Gives f} {rest : List g.Token} → Reads g f ts v rest → IsLongest g f ts v (length ts - length rest)
  reads-longest {f = f} {ts = ts} {v = v} {rest = rest} a =
      let it = taken-by g a in
      let d = length ts - length rest in
      let far : length ts ≡ d + length rest = omega (arith, ap length it.is, length-append it.taken rest) in
      let last = reads-last g may known a d far in
      record {
        within = omega arith;
        spells = reads-spells g may known a d far;
        longest = λ n w more within whole. let most = last.1 n (record { within = within; value = w; spells = whole }) in absurd (omega arith);
      }

  stop-refused : {f : g.Form} {ts at : List g.Token} → Stops g f ts at → length ts - length at < length ts → ¬ Begins g f (take (suc (length ts - length at)) ts)
  stop-refused {f = f} {ts = ts} {at = at} s more (behind, w, whole) =
      let it = stopped-by g s in
      let next = one-more ts it.taken at it.is more in
      let there : Reads g f (it.taken ++ ((next.0 ∷ []) ++ behind)) w [] =
      subst (λ ts. Reads g f ts w []) (ap (λ ts. ts ++ behind) next.3 ∙ append_assoc it.taken (next.0 ∷ []) behind) whole in
      never-both g there (it.before ((next.0 ∷ []) ++ behind) (ap front (sym next.2)))

  pub stops-stop : Endings g may known → {f : g.Form} {ts at : List g.Token} → Stops g f ts at → IsStop g f ts (length ts - length at)
  stops-stop k {f = f} {ts = ts} {at = at} s =
      let it = completed-by g may known k s in
      let whole = it.completed [] (k.at_end f) in
      record {
        within = omega arith;
        begins = (whole.0, whole.1, subst (λ ts. Reads g f ts whole.1 []) (ap (λ more. it.taken ++ more) (append-nil whole.0) ∙ ap (λ ts. ts ++ whole.0) (sym (front-is ts it.taken at it.is))) whole.2);
        refused = stop-refused s;
      }
