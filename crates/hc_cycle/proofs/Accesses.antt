-- What an expression reads and accesses, by its form.
use Rattle.std.proofs.Common.{◌≡◌, ℕ, List, [], ◌∷◌, ◌++◌, refl, sym, ap, ◌∙◌, subst, map}
use Rattle.hc_tree.specs.declared.refusal.Node.{Node}
use Rattle.hc_tree.specs.declared.refusal.Node.TheVariants.{Value}
use Rattle.hc_core.specs.Program.{Expression, Word, Signal, Binary, Choice, Target, ToElement, ToWord}
use Rattle.hc_core.specs.Depends.{Access, accesses, access_needs, target_accesses}
use Rattle.hc_core.specs.Instant.{deps}
use Rattle.hc_core.specs.declared.expr.BinOp.{BinOp}
use Rattle.hc_cycle.specs.declared.sets.Set.{Set}
use Rattle.hc_cycle.specs.declared.sets.Set.TheVariants.{Empty, One}
use Rattle.hc_cycle.specs.declared.sets.Gather.{Gather}
use Rattle.hc_cycle.specs.Sets.{Shows, Joins, Adds, AreRead, Accesses}
use Rattle.hc_cycle.proofs.Unions.{extends_more, grows_itself, grows_more, shows_none, shows_one, shows_both, shows_later, adds_none, adds_both, adds_turned, adds_after, adds_before, adds_from, adds_as, more_decides}

-- an expression that reads and accesses nothing
pub nothing_read : (g : Gather) (start : Set) (e : Expression) → deps e ≡ [] → accesses e ≡ [] → AreRead g g start Empty e
nothing_read g start e d a = record {
  reads = subst (λ (l : List Node). Shows g Empty l) (sym d) (shows_none g);
  adds = adds_as g g start (λ xs. []) (λ xs. access_needs xs (accesses e)) (λ xs. sym (ap (access_needs xs) a)) (adds_none g g start (grows_itself g.table) refl);
}

pub signal_read : (g : Gather) (start : Set) (k : ℕ) → AreRead g g start (One (Value k)) (Signal k)
signal_read g start k = record { reads = shows_one g (Value k); adds = adds_none g g start (grows_itself g.table) refl }

-- one that reads and accesses what its operand does
pub same_read : (g h : Gather) (start s : Set) (a e : Expression) → deps e ≡ deps a → accesses e ≡ accesses a → AreRead g h start s a → AreRead g h start s e
same_read g h start s a e d x r = record {
  reads = subst (λ (l : List Node). Shows h s l) (sym d) r.reads;
  adds = adds_as g h start (λ xs. access_needs xs (accesses a)) (λ xs. access_needs xs (accesses e)) (λ xs. sym (ap (access_needs xs) x)) r.adds;
}

pub map_both : {A B : Type 0} (f : A → B) (xs ys : List A) → map f (xs ++ ys) ≡ map f xs ++ map f ys
map_both f [] ys = refl
map_both f (x ∷ xs) ys = ap (λ l. f x ∷ l) (map_both f xs ys)

pub access_both : (start : List Node) (xs ys : List Access) → access_needs start (xs ++ ys) ≡ access_needs start xs ++ access_needs start ys
access_both start xs ys = map_both (λ a. record { node = Value a.0; on = start ++ deps a.1 }) xs ys

pub accessed : (g h i : Gather) (start on : Set) (memory : ℕ) (index : Set) → Joins g h start index on
    → Adds h i on (λ xs. record { node = Value memory; on = xs } ∷ []) → Accesses g i start memory index
accessed g h i start on memory index j n = record {
  grows = grows_more g.table h.table i.table j.grows n.grows;
  adds = λ ys s. adds_before g h i start (λ xs. record { node = Value memory; on = xs ++ ys } ∷ []) j.grows j.same
      (adds_from h i start on (λ xs. xs ++ ys) (λ xs. record { node = Value memory; on = xs } ∷ []) (more_decides g h i start index on ys j s n.grows.extends) n);
}

-- a word is accessed
accessed_word : (g h i : Gather) (start index : Set) (k : ℕ) (e : Expression) → AreRead g h start index e → Accesses h i start k index
    → Adds g i start (λ xs. record { node = Value k; on = xs ++ deps e } ∷ access_needs xs (accesses e))
accessed_word g h i start index k e r a =
    adds_turned g i start (λ xs. access_needs xs (accesses e)) (λ xs. record { node = Value k; on = xs ++ deps e } ∷ [])
    (adds_both g h i start (λ xs. access_needs xs (accesses e)) (λ xs. record { node = Value k; on = xs ++ deps e } ∷ []) r.adds (a.adds (deps e) r.reads))

pub word_read : (g h i j : Gather) (start index s : Set) (k : ℕ) (e : Expression) → AreRead g h start index e → Accesses h i start k index → Joins i j (One (Value k)) index s
    → AreRead g j start s (Word k e)
word_read g h i j start index s k e r a u = record {
  reads = shows_both i j (One (Value k)) index s (Value k ∷ []) (deps e) u (shows_one i (Value k)) (shows_later h i index (deps e) a.grows.extends r.reads);
  adds = adds_after g i j start (λ xs. record { node = Value k; on = xs ++ deps e } ∷ access_needs xs (accesses e)) (accessed_word g h i start index k e r a) u.grows u.same;
}

pub both_read : (g h i j : Gather) (start x y s : Set) (op : BinOp) (a b : Expression) → AreRead g h start x a → AreRead h i start y b → Joins i j x y s
    → AreRead g j start s (Binary op a b)
both_read g h i j start x y s op a b p q u = record {
  reads = shows_both i j x y s (deps a) (deps b) u (shows_later h i x (deps a) q.adds.grows.extends p.reads) q.reads;
  adds = adds_as g j start (λ xs. access_needs xs (accesses a) ++ access_needs xs (accesses b)) (λ xs. access_needs xs (accesses a ++ accesses b))
      (λ xs. sym (access_both xs (accesses a) (accesses b)))
      (adds_after g i j start (λ xs. access_needs xs (accesses a) ++ access_needs xs (accesses b))
      (adds_both g h i start (λ xs. access_needs xs (accesses a)) (λ xs. access_needs xs (accesses b)) p.adds q.adds) u.grows u.same);
}

pub choice_read : (g h i j k l : Gather) (start z x y t s : Set) (c a b : Expression) → AreRead g h start z c → AreRead h i start x a → AreRead i j start y b
    → Joins j k z x t → Joins k l t y s → AreRead g l start s (Choice c a b)
choice_read g h i j k l start z x y t s c a b o p q u v =
    let z_late = shows_later h j z (deps c) (extends_more h.table i.table j.table p.adds.grows.extends q.adds.grows.extends) o.reads in
    let x_late = shows_later i j x (deps a) q.adds.grows.extends p.reads in
    let t_shows = shows_both j k z x t (deps c) (deps a) u z_late x_late in
    let y_late = shows_later j k y (deps b) u.grows.extends q.reads in
    record {
      reads = shows_both k l t y s (deps c ++ deps a) (deps b) v t_shows y_late;
      adds = adds_as g l start (λ xs. (access_needs xs (accesses c) ++ access_needs xs (accesses a)) ++ access_needs xs (accesses b)) (λ xs. access_needs xs (accesses c ++ accesses a ++ accesses b))
          (λ xs. ap (λ m. m ++ access_needs xs (accesses b)) (sym (access_both xs (accesses c) (accesses a))) ∙ sym (access_both xs (accesses c ++ accesses a) (accesses b)))
          (adds_after g k l start (λ xs. (access_needs xs (accesses c) ++ access_needs xs (accesses a)) ++ access_needs xs (accesses b))
          (adds_after g j k start (λ xs. (access_needs xs (accesses c) ++ access_needs xs (accesses a)) ++ access_needs xs (accesses b))
          (adds_both g i j start (λ xs. access_needs xs (accesses c) ++ access_needs xs (accesses a)) (λ xs. access_needs xs (accesses b))
          (adds_both g h i start (λ xs. access_needs xs (accesses c)) (λ xs. access_needs xs (accesses a)) o.adds p.adds) q.adds) u.grows u.same) v.grows v.same);
    }

-- targets
pub target_none : (g : Gather) (start : Set) (t : Target) → target_accesses t ≡ [] → Adds g g start (λ xs. access_needs xs (target_accesses t))
target_none g start t e = adds_as g g start (λ xs. []) (λ xs. access_needs xs (target_accesses t)) (λ xs. sym (ap (access_needs xs) e)) (adds_none g g start (grows_itself g.table) refl)

pub target_element : (g h : Gather) (start s : Set) (k : ℕ) (i : Expression) → AreRead g h start s i → Adds g h start (λ xs. access_needs xs (target_accesses (ToElement k i)))
target_element g h start s k i r = r.adds

pub target_word : (g h i : Gather) (start s : Set) (k : ℕ) (e : Expression) → AreRead g h start s e → Accesses h i start k s → Adds g i start (λ xs. access_needs xs (target_accesses (ToWord k e)))
target_word g h i start s k e r a = accessed_word g h i start s k e r a
