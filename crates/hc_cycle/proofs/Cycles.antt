-- A core has a cycle, or no node of it reaches itself: a path that goes through each node once at most is looked for, from each node
-- to itself, through nodes that don't stand before it.
use Rattle.std.proofs.Common.{◌≡◌, ◌≢◌, ◌⊎◌, inl, inr, ◌<◌, ◌≤◌, ℕ, List, [], ◌∷◌, ◌++◌, length, map, get_or, Bool, true, false, not, refl, sym, ap, ◌∙◌, subst, arith}
use Rattle.std.specs.Prelude.{AllPairs}
use Rattle.std.specs.List.{Contains}
use Rattle.std.proofs.lemmas.Bool.{cases_lt}
use Rattle.std.proofs.lemmas.List.{get_or_default}
use Rattle.std.proofs.lemmas.List.Elements.{Contains-get_or, Contains-append_left, Contains-append_right, Contains-append_cases}
use Rattle.std.proofs.lemmas.List.Kept.{AllPairs-cons}
use Rattle.hc_tree.specs.declared.refusal.Node.{Node}
use Rattle.hc_tree.specs.declared.refusal.Refusal.{Refusal}
use Rattle.hc_core.specs.Depends.{Need, needs_of, Depends, Reaches, directly, through, Cyclic, Leads, IsCycle, place_of}
use Rattle.hc_core.specs.declared.object.Core.{Core}
use Rattle.hc_cycle.specs.Ranks.{is_same, number_of}
use Rattle.hc_cycle.specs.Order.{NamesCycle, cycle_refusal}
use Rattle.hc_cycle.proofs.Halves.{same_by_number}
use Rattle.hc_cycle.proofs.Needs.{number_injective, in_none, in_head, in_rest, in_cons}

-- ---- nodes

by_bit : (b : Bool) (X : Type 0) → (b ≡ true → X) → (b ≡ false → X) → X
by_bit true X when other = when refl
by_bit false X when other = other refl

same_or_not : (a b : Node) → (a ≡ b) ⊎ (a ≢ b)
same_or_not a b = by_bit (is_same a b) ((a ≡ b) ⊎ (a ≢ b))
    (λ e. inl (number_injective a b ((same_by_number a b).0 e)))
    (λ e. inr (λ f. let g = (same_by_number a b).1 (ap number_of f) in absurd cc))

-- ---- elements

is_in : (xs : List Node) (x : Node) → Contains xs x ⊎ (Contains xs x → ⊥)
is_in [] x = inr (in_none x)
is_in (y ∷ xs) x = elim (same_or_not y x) [
  | inl e ↦ inl (subst (λ z. Contains (y ∷ xs) z) e (in_head y xs))
  | inr other ↦ elim (is_in xs x) [
    | inl there ↦ inl (in_rest y x xs there)
    | inr absent ↦ inr (λ h. elim (in_cons y x xs h) [ inl e ↦ other e | inr there ↦ absent there ])
  ]
]

-- each element of one list is in another
abbrev Within : List Node → List Node → Type 0
Within xs ys = (x : Node) → Contains xs x → Contains ys x

-- no element twice
abbrev Apart : List Node → Type 0
Apart [] = Unit {0}
Apart (x ∷ xs) = (Contains xs x → ⊥) × Apart xs

apart_append : (xs ys : List Node) → Apart xs → Apart ys → ((n : Node) → Contains xs n → Contains ys n → ⊥) → Apart (xs ++ ys)
apart_append [] ys a b never = b
apart_append (x ∷ xs) ys a b never = (
  λ h. elim (Contains-append_cases xs ys x h) [ inl i ↦ a.0 i | inr i ↦ never x (in_head x xs) i ],
  apart_append xs ys a.1 b (λ n i j. never n (in_rest x n xs i) j),
)

at_default : (xs : List Node) (k : ℕ) (d x : Node) → k < length xs → get_or xs k d ≡ x → get_or xs k x ≡ x
at_default xs k d x lt e = get_or_default xs k x d lt ∙ e

all_differ : (xs : List Node) → Apart xs → AllPairs ◌≢◌ xs
all_differ [] a = λ i j d lt within. absurd (omega arith)
all_differ (x ∷ xs) a = AllPairs-cons ◌≢◌ x xs (λ k d lt e. a.0 (k, lt, at_default xs k d x lt (sym e))) (all_differ xs a.1)

-- a list is split at an element
record Split (xs : List Node) (x : Node) : Type 0 where
  front : List Node
  behind : List Node
  is : xs ≡ front ++ x ∷ behind

first_split : (xs : List Node) (x : Node) → Contains xs x → (s : Split xs x) × (Contains s.front x → ⊥)
first_split [] x h = absurd (in_none x h)
first_split (y ∷ xs) x h = elim (same_or_not y x) [
  | inl e ↦ (record { front = []; behind = xs; is = ap (λ z. z ∷ xs) e }, in_none x)
  | inr other ↦
      let rest : Contains xs x = elim (in_cons y x xs h) [ inl e ↦ absurd (other e) | inr i ↦ i ] in
      let s = first_split xs x rest in
      (record { front = y ∷ s.0.front; behind = s.0.behind; is = ap (λ l. y ∷ l) s.0.is }, λ i. elim (in_cons y x s.0.front i) [ inl e ↦ other e | inr j ↦ s.1 j ])
]

last_split : (xs : List Node) (x : Node) → Contains xs x → (s : Split xs x) × (Contains s.behind x → ⊥)
last_split [] x h = absurd (in_none x h)
last_split (y ∷ xs) x h = elim (is_in xs x) [
  | inl i ↦ let s = last_split xs x i in (record { front = y ∷ s.0.front; behind = s.0.behind; is = ap (λ l. y ∷ l) s.0.is }, s.1)
  | inr absent ↦
      let e : y ≡ x = elim (in_cons y x xs h) [ inl e ↦ e | inr i ↦ absurd (absent i) ] in
      (record { front = []; behind = xs; is = ap (λ z. z ∷ xs) e }, absent)
]

front_within : (xs us vs ys : List Node) (x : Node) → xs ≡ us ++ x ∷ vs → Within xs ys → Within us ys
front_within xs us vs ys x is w n h = w n (subst (λ l. Contains l n) (sym is) (Contains-append_left us (x ∷ vs) n h))

behind_within : (xs us vs ys : List Node) (x : Node) → xs ≡ us ++ x ∷ vs → Within xs ys → Within vs ys
behind_within xs us vs ys x is w n h = w n (subst (λ l. Contains l n) (sym is) (Contains-append_right us (x ∷ vs) n (in_rest x n vs h)))

-- what is within a list with one more, and hasn't that one, is within the list
narrow : (x : Node) (xs ys : List Node) → Within xs (x ∷ ys) → (Contains xs x → ⊥) → Within xs ys
narrow x xs ys w absent n h = elim (in_cons x n ys (w n h)) [ inl e ↦ absurd (absent (subst (λ z. Contains xs z) (sym e) h)) | inr i ↦ i ]

wide : (x : Node) (xs ys : List Node) → Within xs ys → Within xs (x ∷ ys)
wide x xs ys w n h = in_rest x n ys (w n h)

-- ---- paths

module _ (core : Core) where
  join : (a : Node) (us : List Node) (x : Node) (vs : List Node) (b : Node) → Leads core a us x → Leads core x vs b → Leads core a (us ++ x ∷ vs) b
  join a [] x vs b f g = (f, g)
  join a (u ∷ us) x vs b f g = (f.0, join u us x vs b f.1 g)

  parted : (a : Node) (us : List Node) (x : Node) (vs : List Node) (b : Node) → Leads core a (us ++ x ∷ vs) b → Leads core a us x × Leads core x vs b
  parted a [] x vs b h = h
  parted a (u ∷ us) x vs b h = let r = parted u us x vs b h.1 in ((h.0, r.0), r.1)

  parted_as : (a : Node) (xs us : List Node) (x : Node) (vs : List Node) (b : Node) → xs ≡ us ++ x ∷ vs → Leads core a xs b → Leads core a us x × Leads core x vs b
  parted_as a xs us x vs b is h = parted a us x vs b (subst (λ l. Leads core a l b) is h)

  path : {a b : Node} → Reaches core a b → (xs : List Node) × Leads core a xs b
  path (directly a b d) = ([], d)
  path (through a b c d r) = let p = path r in (b ∷ p.0, (d, p.1))

  reaches : (a : Node) (xs : List Node) (b : Node) → Leads core a xs b → Reaches core a b
  reaches a [] b d = directly a b d
  reaches a (x ∷ xs) b h = through a x b h.0 (reaches x xs b h.1)

  -- whether a node depends on another
  needed : (needs : List Need) (a b : Node) → ((need : Need) × Contains needs need × (need.node ≡ a) × Contains need.on b)
      ⊎ ((need : Need) → Contains needs need → need.node ≡ a → Contains need.on b → ⊥)
  needed [] a b = inr (λ need h e i. in_none need h)
  needed (n ∷ needs) a b = elim (needed needs a b) [
    | inl y ↦ inl (y.0, in_rest n y.0 needs y.1, y.2, y.3)
    | inr never ↦ elim (same_or_not n.node a) [
      | inl e ↦ elim (is_in n.on b) [
        | inl i ↦ inl (n, in_head n needs, e, i)
        | inr absent ↦ inr (λ need h f i. elim (in_cons n need needs h) [ inl s ↦ absent (subst (λ (z : Need). Contains z.on b) (sym s) i) | inr r ↦ never need r f i ])
      ]
      | inr other ↦ inr (λ need h f i. elim (in_cons n need needs h) [ inl s ↦ other (ap (λ (z : Need). z.node) s ∙ f) | inr r ↦ never need r f i ])
    ]
  ]

  depends : (a b : Node) → Depends core a b ⊎ (Depends core a b → ⊥)
  depends a b = elim (needed (needs_of core) a b) [
    | inl y ↦ inl (record { need = y.0; uses = y.1; node_is = y.2; on_is = y.3 })
    | inr never ↦ inr (λ d. never d.need d.uses d.node_is d.on_is)
  ]

  -- a path through nodes of a list, each once at most, and none at all
  record Simple (among : List Node) (a b : Node) : Type 0 where
    nodes : List Node
    leads : Leads core a nodes b
    apart : Apart nodes
    within : Within nodes among

  abbrev NoPath : List Node → Node → Node → Type 0
  NoPath among a b = (xs : List Node) → Within xs among → Leads core a xs b → ⊥

  direct_none : (a b : Node) → (Depends core a b → ⊥) → NoPath [] a b
  direct_none a b never [] w h = never h
  direct_none a b never (x ∷ xs) w h = in_none x (w x (in_head x xs))

  -- both halves of a path through a node have no node in common, where there is no path without it
  module _ (s : List Node) (a x b : Node) (absent : Contains s x → ⊥) (never : NoPath s a b) (f : Simple s a x) (g : Simple s x b) where
    halves_apart : (n : Node) → Contains f.nodes n → Contains (x ∷ g.nodes) n → ⊥
    halves_apart n i j = elim (in_cons x n g.nodes j) [
      | inl e ↦ absent (subst (λ z. Contains s z) (sym e) (f.within n i))
      | inr k ↦
          let u = (first_split f.nodes n i).0 in
          let v = (first_split g.nodes n k).0 in
          let first = (parted_as a f.nodes u.front n u.behind x u.is f.leads).0 in
          let second = (parted_as x g.nodes v.front n v.behind b v.is g.leads).1 in
          never (u.front ++ n ∷ v.behind)
          (λ y h. elim (Contains-append_cases u.front (n ∷ v.behind) y h) [
            | inl l ↦ front_within f.nodes u.front u.behind s n u.is f.within y l
            | inr r ↦ elim (in_cons n y v.behind r) [
              | inl e ↦ subst (λ z. Contains s z) e (f.within n i)
              | inr q ↦ behind_within g.nodes v.front v.behind s n v.is g.within y q
            ]
          ])
          (join a u.front n v.behind b first second)
    ]

    joined : Simple (x ∷ s) a b
    joined = record {
      nodes = f.nodes ++ x ∷ g.nodes;
      leads = join a f.nodes x g.nodes b f.leads g.leads;
      apart = apart_append f.nodes (x ∷ g.nodes) f.apart (λ i. absent (g.within x i), g.apart) halves_apart;
      within = λ n h. elim (Contains-append_cases f.nodes (x ∷ g.nodes) n h) [
        | inl i ↦ in_rest x n s (f.within n i)
        | inr i ↦ elim (in_cons x n g.nodes i) [ inl e ↦ subst (λ z. Contains (x ∷ s) z) e (in_head x s) | inr j ↦ in_rest x n s (g.within n j) ]
      ];
    }

  wider : (x : Node) (s : List Node) (a b : Node) → Simple s a b → Simple (x ∷ s) a b
  wider x s a b p = record { nodes = p.nodes; leads = p.leads; apart = p.apart; within = wide x p.nodes s p.within }

  no_first : (x : Node) (s : List Node) (a b : Node) → NoPath s a b → NoPath s a x → NoPath (x ∷ s) a b
  no_first x s a b never none xs w h = elim (is_in xs x) [
    | inl i ↦
        let u = first_split xs x i in
        none u.0.front (narrow x u.0.front s (front_within xs u.0.front u.0.behind (x ∷ s) x u.0.is w) u.1) (parted_as a xs u.0.front x u.0.behind b u.0.is h).0
    | inr absent ↦ never xs (narrow x xs s w absent) h
  ]

  no_second : (x : Node) (s : List Node) (a b : Node) → NoPath s a b → NoPath s x b → NoPath (x ∷ s) a b
  no_second x s a b never none xs w h = elim (is_in xs x) [
    | inl i ↦
        let u = last_split xs x i in
        none u.0.behind (narrow x u.0.behind s (behind_within xs u.0.front u.0.behind (x ∷ s) x u.0.is w) u.1) (parted_as a xs u.0.front x u.0.behind b u.0.is h).1
    | inr absent ↦ never xs (narrow x xs s w absent) h
  ]

  no_more : (x : Node) (s : List Node) (a b : Node) → Contains s x → NoPath s a b → NoPath (x ∷ s) a b
  no_more x s a b there never xs w h = never xs (λ n i. elim (in_cons x n s (w n i)) [ inl e ↦ subst (λ z. Contains s z) e there | inr j ↦ j ]) h

  path_or_none : (s : List Node) (a b : Node) → Simple s a b ⊎ NoPath s a b
  path_or_none [] a b = elim (depends a b) [
    | inl d ↦ inl (record { nodes = []; leads = d; apart = tt; within = λ n h. h })
    | inr never ↦ inr (direct_none a b never)
  ]
  path_or_none (x ∷ s) a b = elim (path_or_none s a b) [
    | inl p ↦ inl (wider x s a b p)
    | inr never ↦ elim (is_in s x) [
      | inl there ↦ inr (no_more x s a b there never)
      | inr absent ↦ elim (path_or_none s a x) [
        | inr none ↦ inr (no_first x s a b never none)
        | inl f ↦ elim (path_or_none s x b) [
          | inr none ↦ inr (no_second x s a b never none)
          | inl g ↦ inl (joined s a x b absent never f g)
        ]
      ]
    ]
  ]

  -- ---- cycles

  abbrev all_nodes : List Node
  all_nodes = map (λ (n : Need). n.node) (needs_of core)

  in_map : (needs : List Need) (need : Need) → Contains needs need → Contains (map (λ (n : Need). n.node) needs) need.node
  in_map [] need h = absurd (in_none need h)
  in_map (n ∷ needs) need h = elim (in_cons n need needs h) [
    | inl e ↦ subst (λ (z : Need). Contains (map (λ (m : Need). m.node) (n ∷ needs)) z.node) e (in_head n.node (map (λ (m : Need). m.node) needs))
    | inr i ↦ in_rest n.node need.node (map (λ (m : Need). m.node) needs) (in_map needs need i)
  ]

  depends_there : (a b : Node) → Depends core a b → Contains all_nodes a
  depends_there a b d = subst (λ z. Contains all_nodes z) d.node_is (in_map (needs_of core) d.need d.uses)

  leads_there : (a : Node) (xs : List Node) (b : Node) → Leads core a xs b → Contains all_nodes a
  leads_there a [] b d = depends_there a b d
  leads_there a (x ∷ xs) b h = depends_there a x h.0

  -- another node that doesn't stand before this one
  abbrev Stays : Node → Node → Type 0
  Stays m y = (y ≢ m) × (place_of m ≤ place_of y)

  stays : (m y : Node) → Stays m y ⊎ (Stays m y → ⊥)
  stays m y = elim (same_or_not y m) [
    | inl e ↦ inr (λ h. h.0 e)
    | inr other ↦ elim (cases_lt (place_of y) (place_of m)) [
      | inl before ↦ inr (λ h. let le = h.1 in omega arith)
      | inr not ↦ inl (other, not)
    ]
  ]

  abbrev put : {P : Type 0} → P ⊎ (P → ⊥) → Node → List Node → List Node
  put (inl p) y ys = y ∷ ys
  put (inr q) y ys = ys

  put_is : {P : Type 0} (d : P ⊎ (P → ⊥)) (y : Node) (ys : List Node) (n : Node) → Contains (put d y ys) n → ((y ≡ n) × P) ⊎ Contains ys n
  put_is (inl p) y ys n h = elim (in_cons y n ys h) [ inl e ↦ inl (e, p) | inr i ↦ inr i ]
  put_is (inr q) y ys n h = inr h

  put_here : {P : Type 0} (d : P ⊎ (P → ⊥)) (y : Node) (ys : List Node) → P → Contains (put d y ys) y
  put_here (inl p) y ys h = in_head y ys
  put_here (inr q) y ys h = absurd (q h)

  put_rest : {P : Type 0} (d : P ⊎ (P → ⊥)) (y : Node) (ys : List Node) (n : Node) → Contains ys n → Contains (put d y ys) n
  put_rest (inl p) y ys n h = in_rest y n ys h
  put_rest (inr q) y ys n h = h

  -- those of a list
  abbrev behind : Node → List Node → List Node
  behind m [] = []
  behind m (y ∷ ys) = put (stays m y) y (behind m ys)

  behind_is : (m : Node) (ys : List Node) (n : Node) → Contains (behind m ys) n → Stays m n
  behind_is m [] n h = absurd (in_none n h)
  behind_is m (y ∷ ys) n h = elim (put_is (stays m y) y (behind m ys) n h) [
    | inl here ↦ subst (λ z. Stays m z) here.0 here.1
    | inr i ↦ behind_is m ys n i
  ]

  behind_has : (m : Node) (ys : List Node) (n : Node) → Contains ys n → Stays m n → Contains (behind m ys) n
  behind_has m [] n h is = absurd (in_none n h)
  behind_has m (y ∷ ys) n h is = elim (in_cons y n ys h) [
    | inl e ↦ subst (λ z. Contains (put (stays m y) y (behind m ys)) z) e (put_here (stays m y) y (behind m ys) (subst (λ z. Stays m z) (sym e) is))
    | inr i ↦ put_rest (stays m y) y (behind m ys) n (behind_has m ys n i is)
  ]

  -- one of some nodes has a cycle, or there is no path from any of them to itself
  found : (ms : List Node) → ((nodes : List Node) × IsCycle core nodes) ⊎ ((m : Node) → Contains ms m → NoPath (behind m all_nodes) m m)
  found [] = inr (λ m h. absurd (in_none m h))
  found (m ∷ ms) = elim (path_or_none (behind m all_nodes) m m) [
    | inl p ↦ inl (
      m ∷ p.nodes,
      record {
        leads = p.leads;
        distinct = all_differ (m ∷ p.nodes) (λ i. (behind_is m all_nodes m (p.within m i)).0 refl, p.apart);
        least = λ k d lt. (behind_is m all_nodes (get_or p.nodes k d) (p.within (get_or p.nodes k d) (Contains-get_or p.nodes k d lt))).1;
      },
    )
    | inr never ↦ elim (found ms) [
      | inl c ↦ inl c
      | inr none ↦ inr (λ n h. elim (in_cons m n ms h) [ inl e ↦ subst (λ z. NoPath (behind z all_nodes) z z) e never | inr i ↦ none n i ])
    ]
  ]

  -- ---- no cycle

  -- a node of a list that doesn't stand behind another
  lowest : (a : Node) (xs : List Node) → (m : Node) × Contains (a ∷ xs) m × ((n : Node) → Contains (a ∷ xs) n → place_of m ≤ place_of n)
  lowest a [] = (a, in_head a [], λ n h. elim (in_cons a n [] h) [ inl e ↦ subst (λ z. place_of a ≤ place_of z) e (omega arith) | inr i ↦ absurd (in_none n i) ])
  lowest a (x ∷ xs) =
      let r = lowest x xs in
      elim (cases_lt (place_of a) (place_of r.0)) [
        | inl lt ↦ (
          a,
          in_head a (x ∷ xs),
          λ n h. elim (in_cons a n (x ∷ xs) h) [
            | inl e ↦ subst (λ z. place_of a ≤ place_of z) e (omega arith)
            | inr i ↦ let le = r.2 n i in omega arith
          ],
        )
        | inr ge ↦ (
          r.0,
          in_rest a r.0 (x ∷ xs) r.1,
          λ n h. elim (in_cons a n (x ∷ xs) h) [
            | inl e ↦ subst (λ z. place_of r.0 ≤ place_of z) e ge
            | inr i ↦ r.2 n i
          ],
        )
      ]

  -- the nodes of a path, but the last
  each_there : (a : Node) (xs : List Node) (b : Node) → Leads core a xs b → (n : Node) → Contains xs n → Contains all_nodes n
  each_there a [] b h n i = absurd (in_none n i)
  each_there a (x ∷ xs) b h n i = elim (in_cons x n xs i) [
    | inl e ↦ subst (λ z. Contains all_nodes z) e (leads_there x xs b h.1)
    | inr j ↦ each_there x xs b h.1 n j
  ]

  module _ (none : (m : Node) → Contains all_nodes m → NoPath (behind m all_nodes) m m) where
    -- what comes back to the node alone
    once : (m : Node) (xs : List Node) → Leads core m xs m → ((n : Node) → Contains xs n → place_of m ≤ place_of n) → (Contains xs m → ⊥) → ⊥
    once m xs h least absent =
        none m (leads_there m xs m h) xs
        (λ n i. behind_has m all_nodes n (each_there m xs m h n i) (λ e. absent (subst (λ z. Contains xs z) e i), least n i)) h

    back : (m : Node) (xs : List Node) → Leads core m xs m → ((n : Node) → Contains xs n → place_of m ≤ place_of n) → ⊥
    back m xs h least = elim (is_in xs m) [
      | inl i ↦
          let u = last_split xs m i in
          once m u.0.behind (parted_as m xs u.0.front m u.0.behind m u.0.is h).1
          (λ n j. least n (subst (λ l. Contains l n) (sym u.0.is) (Contains-append_right u.0.front (m ∷ u.0.behind) n (in_rest m n u.0.behind j)))) u.1
      | inr absent ↦ once m xs h least absent
    ]

    turned : (a : Node) (xs : List Node) → Leads core a xs a → ⊥
    turned a xs h =
        let low = lowest a xs in
        let m = low.0 in
        elim (in_cons a m xs low.1) [
          | inl e ↦ back a xs h (λ n i. subst (λ z. place_of z ≤ place_of n) (sym e) (low.2 n (in_rest a n xs i)))
          | inr i ↦
              let u = (first_split xs m i).0 in
              let both = parted_as a xs u.front m u.behind a u.is h in
              back m (u.behind ++ a ∷ u.front) (join m u.behind a u.front m both.1 both.0)
              (λ n j. elim (Contains-append_cases u.behind (a ∷ u.front) n j) [
                | inl l ↦ low.2 n (in_rest a n xs (subst (λ z. Contains z n) (sym u.is) (Contains-append_right u.front (m ∷ u.behind) n (in_rest m n u.behind l))))
                | inr r ↦ elim (in_cons a n u.front r) [
                  | inl e ↦ low.2 n (subst (λ z. Contains (a ∷ xs) z) e (in_head a xs))
                  | inr q ↦ low.2 n (in_rest a n xs (subst (λ z. Contains z n) (sym u.is) (Contains-append_left u.front (m ∷ u.behind) n q)))
                ]
              ])
        ]

  pub cycle_or_none : ((refusal : Refusal) × NamesCycle core refusal) ⊎ (Cyclic core → ⊥)
  cycle_or_none = elim (found all_nodes) [
    | inl c ↦ inl (cycle_refusal core c.0, record { nodes = c.0; cycle = c.1; is = refl })
    | inr none ↦ inr (λ h. let p = path h.1 in turned none h.0 p.0 p.1)
  ]

  cycle_reaches : (nodes : List Node) → IsCycle core nodes → Cyclic core
  cycle_reaches [] h = absurd h
  cycle_reaches (first ∷ others) h = (first, reaches first others first h.leads)

  pub names_cyclic : (refusal : Refusal) → NamesCycle core refusal → Cyclic core
  names_cyclic refusal h = cycle_reaches h.nodes h.cycle
