-- The cycle at the end of a path, and the same cycle from another node on.
use Rattle.std.proofs.Common.{◌≡◌, ◌≢◌, ◌<◌, ◌≤◌, ℕ, ◌+◌, ◌-◌, List, [], ◌∷◌, ◌++◌, length, get_or, take, drop, refl, sym, ap, ◌∙◌, subst, inl, inr, arith, add-one}
use Rattle.std.specs.Prelude.{AllPairs, All}
use Rattle.std.proofs.Math.ListN.{length-append, get_or-append}
use Rattle.std.proofs.lemmas.List.{take-append-drop, append-nil, append_assoc, get_or-append-add}
use Rattle.std.proofs.lemmas.Bool.{cases_lt}
use Rattle.std.proofs.lemmas.List.Elements.{All-take, All-drop, All-append}
use Rattle.hc_graph.specs.declared.graph.Fork.{Fork}
use Rattle.hc_graph.specs.Graph.{Along, IsCycle}
use Rattle.hc_graph.specs.Search.{Chain, ChainFrom, IsClosed, IsFrom}

chain_from_behind : (graph : List Fork) (a : ℕ) (xs ys : List ℕ) → ChainFrom graph a (xs ++ ys) → Chain graph ys
chain_from_behind graph a [] [] h = tt
chain_from_behind graph a [] (y ∷ ys) h = h.1
chain_from_behind graph a (x ∷ xs) ys h = chain_from_behind graph x xs ys h.1

chain_behind : (graph : List Fork) (xs ys : List ℕ) → Chain graph (xs ++ ys) → Chain graph ys
chain_behind graph [] ys h = h
chain_behind graph (x ∷ xs) ys h = chain_from_behind graph x xs ys h

along_of_chain : (graph : List Fork) (a : ℕ) (xs : List ℕ) (to : ℕ) → ChainFrom graph a (xs ++ to ∷ []) → Along graph a xs to
along_of_chain graph a [] to h = h.0
along_of_chain graph a (x ∷ xs) to h = (h.0, along_of_chain graph x xs to h.1)

along_split : (graph : List Fork) (a : ℕ) (xs : List ℕ) (b : ℕ) (ys : List ℕ) (to : ℕ) → Along graph a (xs ++ b ∷ ys) to → Along graph a xs b × Along graph b ys to
along_split graph a [] b ys to h = (h.0, h.1)
along_split graph a (x ∷ xs) b ys to h = let rest = along_split graph x xs b ys to h.1 in ((h.0, rest.0), rest.1)

along_join : (graph : List Fork) (a : ℕ) (xs : List ℕ) (b : ℕ) (ys : List ℕ) (to : ℕ) → Along graph a xs b → Along graph b ys to → Along graph a (xs ++ b ∷ ys) to
along_join graph a [] b ys to h g = (h, g)
along_join graph a (x ∷ xs) b ys to h g = (h.0, along_join graph x xs b ys to h.1 g)

-- distinct nodes
pairs_behind : (xs ys : List ℕ) → AllPairs ◌≢◌ (xs ++ ys) → AllPairs ◌≢◌ ys
pairs_behind xs ys h i j d lt within =
    let long = length-append xs ys in
    let a = get_or-append-add xs ys i d in
    let b = get_or-append-add xs ys j d in
    λ e. h (length xs + i) (length xs + j) d (omega arith) (omega arith) (a ∙ e ∙ sym b)

right_of : (xs ys : List ℕ) (k : ℕ) (d : ℕ) → length xs ≤ k → get_or (xs ++ ys) k d ≡ get_or ys (k - length xs) d
right_of xs ys k d h = Rattle.std.proofs.lemmas.List.get_or-append_right xs ys (length xs) k d refl h

pairs_turned : (xs ys : List ℕ) → AllPairs ◌≢◌ (xs ++ ys) → AllPairs ◌≢◌ (ys ++ xs)
pairs_turned xs ys h i j d lt within =
    let long = length-append xs ys in
    let turned = length-append ys xs in
    elim (cases_lt j (length ys)) [
      | inl low ↦
          let a = get_or-append ys xs d i (omega arith) ∙ sym (get_or-append-add xs ys i d) in
          let b = get_or-append ys xs d j low ∙ sym (get_or-append-add xs ys j d) in
          λ e. h (length xs + i) (length xs + j) d (omega arith) (omega arith) (sym a ∙ e ∙ b)
      | inr high ↦ elim (cases_lt i (length ys)) [
        | inl low ↦
            let a = get_or-append ys xs d i low ∙ sym (get_or-append-add xs ys i d) in
            let b = right_of ys xs j d high ∙ sym (get_or-append xs ys d (j - length ys) (omega arith)) in
            λ e. h (j - length ys) (length xs + i) d (omega arith) (omega arith) (sym b ∙ sym e ∙ a)
        | inr above ↦
            let a = right_of ys xs i d above ∙ sym (get_or-append xs ys d (i - length ys) (omega arith)) in
            let b = right_of ys xs j d high ∙ sym (get_or-append xs ys d (j - length ys) (omega arith)) in
            λ e. h (i - length ys) (j - length ys) d (omega arith) (omega arith) (sym a ∙ e ∙ b)
      ]
    ]

-- a cycle from its node at the seam on
turned : (graph : List Fork) (a : ℕ) (nodes xs ys : List ℕ) (b : ℕ) → Along graph a nodes a → a ∷ nodes ≡ xs ++ b ∷ ys → AllPairs ◌≢◌ (a ∷ nodes)
    → All (λ n. b ≤ n) (xs ++ b ∷ ys) → All (λ n. b ≤ n) (ys ++ xs) → IsCycle graph ((b ∷ ys) ++ xs)
turned graph a nodes [] ys b along is distinct least others =
    let first : a ≡ b = cc in
    let rest : nodes ≡ ys = cc in
    record {
      along = rw (append-nil ys) (subst (λ (x : ℕ). Along graph x ys x) first (subst (λ (l : List ℕ). Along graph a l a) rest along));
      distinct = rw (append-nil ys) (subst (λ (l : List ℕ). AllPairs ◌≢◌ l) is distinct);
      least = others;
    }
turned graph a nodes (x ∷ xs) ys b along is distinct least others =
    let first : a ≡ x = cc in
    let rest : nodes ≡ xs ++ b ∷ ys = cc in
    let parts = along_split graph x xs b ys x (subst (λ (n : ℕ). Along graph n (xs ++ b ∷ ys) n) first (subst (λ (l : List ℕ). Along graph a l a) rest along)) in
    record {
      along = along_join graph b ys x xs b parts.1 parts.0;
      distinct = pairs_turned (x ∷ xs) (b ∷ ys) (subst (λ (l : List ℕ). AllPairs ◌≢◌ l) is distinct);
      least = others;
    }

split_at : (xs : List ℕ) (k d : ℕ) → k < length xs → drop k xs ≡ get_or xs k d ∷ drop (k + 1) xs
split_at xs k d h = Rattle.std.proofs.Math.Seq.drop-cons xs k d h ∙ ap (λ n. get_or xs k d ∷ drop n xs) (sym (add-one k))

pub cycle_of : (graph : List Fork) (path nodes : List ℕ) (back k : ℕ) → IsClosed graph path back → AllPairs ◌≢◌ path → IsFrom path back nodes → k < length nodes
    → All (λ n. get_or nodes k 0 ≤ n) nodes → IsCycle graph (drop k nodes ++ take k nodes)
cycle_of graph path nodes back k closed distinct from within least =
    let chain : Chain graph ((from.before ++ back ∷ from.behind) ++ back ∷ []) = subst (λ (l : List ℕ). Chain graph (l ++ back ∷ [])) from.path_is closed.chain in
    let end : Chain graph ((back ∷ from.behind) ++ back ∷ []) = chain_behind graph from.before ((back ∷ from.behind) ++ back ∷ []) (rw append_assoc at chain) in
    let along : Along graph back from.behind back = along_of_chain graph back from.behind back end in
    let whole = take-append-drop k nodes in
    let here = split_at nodes k 0 within in
    let is : back ∷ from.behind ≡ take k nodes ++ get_or nodes k 0 ∷ drop (k + 1) nodes = sym from.nodes_are ∙ sym whole ∙ ap (λ l. take k nodes ++ l) here in
    let all = subst (λ (l : List ℕ). All (λ n. get_or nodes k 0 ≤ n) l) (from.nodes_are ∙ is) least in
    let front = All-take (λ n. get_or nodes k 0 ≤ n) k nodes least in
    let behind = All-drop (λ n. get_or nodes k 0 ≤ n) (k + 1) nodes least in
    rw here (turned graph back from.behind (take k nodes) (drop (k + 1) nodes) (get_or nodes k 0) along is
    (pairs_behind from.before (back ∷ from.behind) (subst (λ (l : List ℕ). AllPairs ◌≢◌ l) from.path_is distinct)) all
    (All-append (λ n. get_or nodes k 0 ≤ n) (drop (k + 1) nodes) (take k nodes) behind front))

pub to_end : (xs : List ℕ) (k : ℕ) → take (length xs - k) (drop k xs) ≡ drop k xs
to_end xs k = Rattle.std.proofs.lemmas.List.take_all (length xs - k) (drop k xs) (let e = Rattle.std.proofs.Math.ListN.length-drop k xs in omega arith)
