-- How the ends of statements are put together.
use Rattle.std.proofs.Common.{◌≡◌, List, [], ◌++◌, Bool, true, false, ◌&&◌, refl, sym, ap, ◌∙◌, subst}
use Rattle.hc_tree.specs.declared.refusal.Node.{Node}
use Rattle.hc_core.specs.Program.{Statement}
use Rattle.hc_core.specs.Zero.{zero}
use Rattle.hc_core.specs.Instant.{where_it, passes, finishes, Before}
use Rattle.hc_cycle.specs.declared.sets.Set.{Set}
use Rattle.hc_cycle.specs.declared.sets.Set.TheVariants.{Empty}
use Rattle.hc_cycle.specs.declared.sets.Ends.{Ends}
use Rattle.hc_cycle.specs.declared.sets.Gather.{Gather}
use Rattle.hc_cycle.specs.Sets.{Table, Reads, no_member, Extends, Joins, AreEnds, Beside, Decided, IsBehind, StartsBehind, Follows}
use Rattle.hc_cycle.proofs.Unions.{extends_more, grows_more, shows_later, shows_both, shows_where}

pub beside_of : (g h i : Gather) (zero : Bool) (a b : Ends) (pass finish : Set) → Joins g h a.pass b.pass pass → Joins h i a.finish b.finish finish
    → Beside g i zero a b (record { zero = zero; pass = pass; finish = finish })
beside_of g h i zero a b pass finish p f = record {
  grows = grows_more g.table h.table i.table p.grows f.grows;
  same = f.same ∙ p.same;
  zero_is = refl;
  pass = λ xs ys r s. shows_later h i pass (xs ++ ys) f.grows.extends (shows_both g h a.pass b.pass pass xs ys p r s);
  finish = λ xs ys r s. shows_both h i a.finish b.finish finish xs ys f (shows_later g h a.finish xs p.grows.extends r) (shows_later g h b.finish ys p.grows.extends s);
}

pub decided_of : (g h : Gather) (read pass r : Set) (a : Ends) → Joins g h read a.pass pass → (a.zero ≡ true → r ≡ pass) → (a.zero ≡ false → r ≡ Empty)
    → Decided g h read a (record { zero = a.zero; pass = r; finish = a.finish })
decided_of g h read pass r a j on off = record {
  grows = j.grows;
  same = j.same;
  zero_is = refl;
  pass = λ xs ys p q. shows_where h a.zero pass r (xs ++ ys) on off (shows_both g h read a.pass pass xs ys j p q);
  finish = λ ys p. shows_later g h a.finish ys j.grows.extends p;
}

reads_where : (t : Table) (b : Bool) (s r : Set) (xs : List Node) → (b ≡ true → r ≡ s) → (b ≡ false → r ≡ Empty) → Reads t s xs → Reads t r (where_it b xs)
reads_where t true s r xs = λ on off h. subst (λ (x : Set). Reads t x xs) (sym (on refl)) h
reads_where t false s r xs = λ on off h. subst (λ (x : Set). Reads t x []) (sym (off refl)) no_member

pub starts_behind_of : (g h i : Gather) (start passed w s : Set) (before : Ends) → Joins g h start before.pass passed → (before.zero ≡ true → w ≡ passed)
    → (before.zero ≡ false → w ≡ Empty) → Joins h i before.finish w s → StartsBehind g i start before s
starts_behind_of g h i start passed w s before j on off k = record {
  grows = grows_more g.table h.table i.table j.grows k.grows;
  same = k.same ∙ j.same;
  shows = λ b is t xs e r.
      let e_h = extends_more h.table i.table t k.grows.extends e in
      let e_g = extends_more g.table h.table t j.grows.extends e_h in
      k.shows t b.finish (where_it b.may_pass (xs ++ b.pass)) e (is.finish.shows t e_g)
      (reads_where t b.may_pass passed w (xs ++ b.pass) (λ h. on (is.zero_is ∙ h)) (λ h. off (is.zero_is ∙ h)) (j.shows t xs b.pass e_h r (is.pass.shows t e_g)));
}

pub is_later : (g h : Gather) (e : Ends) (b : Before) → Extends g.table h.table → IsBehind g e b → IsBehind h e b
is_later g h e b x is = record { zero_is = is.zero_is; pass = shows_later g h e.pass b.pass x is.pass; finish = shows_later g h e.finish b.finish x is.finish }

pub ends_later : (g h : Gather) (e : Ends) (s : Statement) → Extends g.table h.table → AreEnds g e s → AreEnds h e s
ends_later g h e s x are = record { zero_is = are.zero_is; pass = shows_later g h e.pass (passes s) x are.pass; finish = shows_later g h e.finish (finishes s) x are.finish }

module _ (g h i j : Gather) (before next : Ends) (passed earlier w finish p : Set) (z : Bool)
    (j1 : Joins g h before.pass next.pass passed) (j2 : Joins h i before.finish next.pass earlier) (on1 : next.zero ≡ true → w ≡ earlier) (off1 : next.zero ≡ false → w ≡ Empty)
    (j3 : Joins i j next.finish w finish) (z_is : z ≡ (before.zero && next.zero)) (on2 : z ≡ true → p ≡ passed) (off2 : z ≡ false → p ≡ Empty) where
  g_i : Extends g.table i.table
  g_i = extends_more g.table h.table i.table j1.grows.extends j2.grows.extends

  pub follows_of : Follows g j before next (record { zero = z; pass = p; finish = finish })
  follows_of = record {
    grows = grows_more g.table i.table j.table (grows_more g.table h.table i.table j1.grows j2.grows) j3.grows;
    same = j3.same ∙ j2.same ∙ j1.same;
    ends = λ b s is are.
        let zz : z ≡ (b.may_pass && zero s) = z_is ∙ ap (λ x. x && next.zero) is.zero_is ∙ ap (λ x. b.may_pass && x) are.zero_is in
        let passed_h = shows_both g h before.pass next.pass passed b.pass (passes s) j1 is.pass are.pass in
        let h_j = extends_more h.table i.table j.table j2.grows.extends j3.grows.extends in
        let earlier_i = shows_both h i before.finish next.pass earlier b.finish (passes s) j2
        (shows_later g h before.finish b.finish j1.grows.extends is.finish) (shows_later g h next.pass (passes s) j1.grows.extends are.pass) in
        let w_i = shows_where i (zero s) earlier w (b.finish ++ passes s) (λ q. on1 (are.zero_is ∙ q)) (λ q. off1 (are.zero_is ∙ q)) earlier_i in
        record {
          zero_is = zz;
          pass = shows_where j (b.may_pass && zero s) passed p (b.pass ++ passes s) (λ q. on2 (zz ∙ q)) (λ q. off2 (zz ∙ q)) (shows_later h j passed (b.pass ++ passes s) h_j passed_h);
          finish = shows_both i j next.finish w finish (finishes s) (where_it (zero s) (b.finish ++ passes s)) j3 (shows_later g i next.finish (finishes s) g_i are.finish) w_i;
        };
  }
