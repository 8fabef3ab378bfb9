-- Each step keeps what the search knows.
use Rattle.std.proofs.Common.{◌≡◌, ◌≢◌, ◌<◌, ℕ, ◌+◌, List, [], ◌∷◌, ◌++◌, Some, length, get_or, set, sym, ap, ◌∙◌, subst, inl, inr, arith}
use Rattle.std.specs.Prelude.{slice_get, AllPairs}
use Rattle.std.specs.List.{Contains}
use Rattle.std.proofs.Math.ListN.{length-set, length-append, get_or-append}
use Rattle.std.proofs.lemmas.List.{length_push}
use Rattle.std.proofs.lemmas.List.Elements.{Contains-push, Contains-push_cases, Contains-append_left, Contains-get_or}
use Rattle.std.proofs.lemmas.List.Quantifiers.{all_pairs_push}
use Rattle.std.proofs.lemmas.Option.{slice_get_within}
use Rattle.hc_graph.specs.declared.graph.Fork.{Fork}
use Rattle.hc_graph.specs.declared.search.Mark.{Mark}
use Rattle.hc_graph.specs.declared.search.Mark.TheVariants.{New, Open, Passed}
use Rattle.hc_graph.specs.Graph.{Leads}
use Rattle.hc_graph.specs.Search.{Chain, ChainFrom, IsSearch, LeadsToPassed, KeepsMet}
use Rattle.hc_graph.proofs.Marks.{get_set_same, get_set_cases, get_set_other, one_less, as_many}

-- ---- the path

chain_from_front : (graph : List Fork) (a : ℕ) (xs ys : List ℕ) → ChainFrom graph a (xs ++ ys) → ChainFrom graph a xs
chain_from_front graph a [] ys h = tt
chain_from_front graph a (x ∷ xs) ys h = (h.0, chain_from_front graph x xs ys h.1)

pub chain_front : (graph : List Fork) (xs ys : List ℕ) → Chain graph (xs ++ ys) → Chain graph xs
chain_front graph [] ys h = tt
chain_front graph (x ∷ xs) ys h = chain_from_front graph x xs ys h

chain_from_more : (graph : List Fork) (a : ℕ) (xs : List ℕ) (v w : ℕ) → ChainFrom graph a (xs ++ v ∷ []) → Leads graph v w → ChainFrom graph a ((xs ++ v ∷ []) ++ w ∷ [])
chain_from_more graph a [] v w h leads = (h.0, (leads, tt))
chain_from_more graph a (x ∷ xs) v w h leads = (h.0, chain_from_more graph x xs v w h.1 leads)

pub chain_more : (graph : List Fork) (xs : List ℕ) (v w : ℕ) → Chain graph (xs ++ v ∷ []) → Leads graph v w → Chain graph ((xs ++ v ∷ []) ++ w ∷ [])
chain_more graph [] v w h leads = (leads, tt)
chain_more graph (x ∷ xs) v w h leads = chain_from_more graph x xs v w h leads

pair_front : (xs : List ℕ) (v : ℕ) → AllPairs ◌≢◌ (xs ++ v ∷ []) → AllPairs ◌≢◌ xs
pair_front xs v h i j d lt within =
    let long = length_push xs v in
    let a = get_or-append xs (v ∷ []) d i (omega arith) in
    let b = get_or-append xs (v ∷ []) d j within in
    λ e. h i j d lt (omega arith) (a ∙ e ∙ sym b)

last_is_new : (xs : List ℕ) (v : ℕ) → AllPairs ◌≢◌ (xs ++ v ∷ []) → Contains xs v → ⊥
last_is_new xs v h there =
    let long = length_push xs v in
    let k = there.0 in
    let within = there.1 in
    let a = get_or-append xs (v ∷ []) v k within in
    let b : get_or (xs ++ v ∷ []) (length xs) v ≡ v = Rattle.std.proofs.Math.Seq.get_or-append_seam xs v [] v in
    h k (length xs) v within (omega arith) (a ∙ there.2 ∙ sym b)

-- ---- a new node on the path
pub entered : (graph : List Fork) (marks : List Mark) (path : List ℕ) (passed node : ℕ) → IsSearch graph marks path passed
    → slice_get marks node ≡ Some New → Chain graph (path ++ node ∷ []) → IsSearch graph (set marks node Open) (path ++ node ∷ []) passed
entered graph marks path passed node h new chain = record {
  size = length-set marks node Open ∙ h.size;
  falls = λ a b r leads is within. elim (get_set_cases marks node a Open (Passed r) is) [
    | inl same ↦ absurd cc
    | inr other ↦
        let old = h.falls a b r leads other.1 within in
        let ne : b ≢ node = λ e. let bad : slice_get marks node ≡ Some (Passed old.0) = ap (slice_get marks) (sym e) ∙ old.1 in absurd cc in
        (old.0, get_set_other marks node b Open ne ∙ old.1, old.2)
  ];
  below = λ a r is. elim (get_set_cases marks node a Open (Passed r) is) [
    | inl same ↦ absurd cc
    | inr other ↦ h.below a r other.1
  ];
  chain = chain;
  distinct = all_pairs_push ◌≢◌ path node h.distinct (λ k d within e.
      let there = h.are_open (get_or path k d) (Contains-get_or path k d within) in
      let bad : slice_get marks node ≡ Some Open = ap (slice_get marks) (sym e) ∙ there in absurd cc);
  on_path = λ a is. elim (get_set_cases marks node a Open Open is) [
    | inl same ↦ subst (λ (x : ℕ). Contains (path ++ node ∷ []) x) (sym same.0) (Contains-push path node)
    | inr other ↦ Contains-append_left path (node ∷ []) a (h.on_path a other.1)
  ];
  are_open = λ a there. elim (Contains-push_cases path node a there) [
    | inl old ↦
        let is = h.are_open a old in
        let ne : a ≢ node = λ e. let bad : slice_get marks node ≡ Some Open = ap (slice_get marks) (sym e) ∙ is in absurd cc in
        get_set_other marks node a Open ne ∙ is
    | inr same ↦ ap (slice_get (set marks node Open)) (sym same) ∙ get_set_same marks node Open New new
  ];
  count = let c = h.count in let l = one_less marks node new in let p = length_push path node in omega arith;
}

-- ---- a node is passed
pub left : (graph : List Fork) (marks : List Mark) (path : List ℕ) (passed node : ℕ) → IsSearch graph marks (path ++ node ∷ []) passed
    → LeadsToPassed graph marks node → IsSearch graph (set marks node (Passed passed)) path (passed + 1)
left graph marks path passed node h targets =
    let open_now : slice_get marks node ≡ Some Open = h.are_open node (Contains-push path node) in
    let kept : (b q : ℕ) → slice_get marks b ≡ Some (Passed q) → slice_get (set marks node (Passed passed)) b ≡ Some (Passed q) =
    λ b q is. let ne : b ≢ node = λ e. let bad : slice_get marks node ≡ Some (Passed q) = ap (slice_get marks) (sym e) ∙ is in absurd cc in
    get_set_other marks node b (Passed passed) ne ∙ is in
    record {
      size = length-set marks node (Passed passed) ∙ h.size;
      falls = λ a b r leads is within. elim (get_set_cases marks node a (Passed passed) (Passed r) is) [
        | inl same ↦
            let there = targets b (subst (λ (x : ℕ). Leads graph x b) same.0 leads) within in
            let low = h.below b there.0 there.1 in
            let e : passed ≡ r = cc in
            (there.0, kept b there.0 there.1, omega arith)
        | inr other ↦
            let old = h.falls a b r leads other.1 within in
            (old.0, kept b old.0 old.1, old.2)
      ];
      below = λ a r is. elim (get_set_cases marks node a (Passed passed) (Passed r) is) [
        | inl same ↦ let e : passed ≡ r = cc in omega arith
        | inr other ↦ let low = h.below a r other.1 in omega arith
      ];
      chain = chain_front graph path (node ∷ []) h.chain;
      distinct = pair_front path node h.distinct;
      on_path = λ a is. elim (get_set_cases marks node a (Passed passed) Open is) [
        | inl same ↦ absurd cc
        | inr other ↦ elim (Contains-push_cases path node a (h.on_path a other.1)) [
          | inl old ↦ old
          | inr same ↦ absurd (other.0 (sym same))
        ]
      ];
      are_open = λ a there.
          let is = h.are_open a (Contains-append_left path (node ∷ []) a there) in
          let ne : a ≢ node = λ e. last_is_new path node h.distinct (subst (λ (x : ℕ). Contains path x) e there) in
          get_set_other marks node a (Passed passed) ne ∙ is;
      count = let c = h.count in let l = as_many marks node passed open_now in let p = length_push path node in omega arith;
    }

pub within : {X : Type 0} (xs : List X) (k : ℕ) (x : X) → slice_get xs k ≡ Some x → k < length xs
within xs k x e = slice_get_within xs k x e

pub kept_by_open : (marks : List Mark) (k : ℕ) → KeepsMet marks (set marks k Open)
kept_by_open marks k a is = elim (get_set_cases marks k a Open New is) [
  | inl same ↦ absurd cc
  | inr other ↦ other.1
]

pub kept_by_passed : (marks : List Mark) (k r : ℕ) → KeepsMet marks (set marks k (Passed r))
kept_by_passed marks k r a is = elim (get_set_cases marks k a (Passed r) New is) [
  | inl same ↦ absurd cc
  | inr other ↦ other.1
]
