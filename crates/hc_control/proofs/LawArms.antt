-- Arms, of which a selector's number takes one or none.
use Rattle.std.proofs.Common.{◌≡◌, ◌⊎◌, inl, inr, ⊎_elim, ℕ, zero, suc, List, [], ◌∷◌, ◌++◌, map, Bool, true, false, not, ◌&&◌, ◌||◌, if◌then◌else◌, Option, Some, None, refl, ap, sym, ◌∙◌, subst, slice_get}
use Rattle.std.proofs.lemmas.List.{append-nil}
use Rattle.hc_num.specs.Number.{Number}
use Rattle.hc_core.specs.Program.{Expression}
use Rattle.hc_meaning.specs.Residual.{Residual, Skip, Switch, Arms, no_arm, arm}
use Rattle.hc_meaning.specs.Value.{World, number_of}
use Rattle.hc_meaning.specs.Control.{resolved, arm_resolved, default_resolved, chooses, is_chosen, front, evaluated, arm_evaluated, default_evaluated, is_skip, Condition}
use Rattle.hc_control.specs.Token.{Clocks, current, held_behind, token_at, ends, IsFair, IsFairBefore, asked, SameMembers, Follows}
use Rattle.hc_control.specs.Lists.{ArmWires, FollowArms, none_taken, first_chosen, first_default, taken_arms, chosen_pass, some_pass, some_chosen, some_finish, arms_enabled, arms_tested, IsSwitched}
use Rattle.hc_control.proofs.Steps.{or_false, fair_at_first, fair_next, over_clocks, IsFree, Tells, tells, ended_now, free_nowhere, free_idle}
use Rattle.hc_control.proofs.Members.{same_refl, same_trans, same_append, at, plus, same_by, rest_asked, asked_is}

-- ---- the arm that is taken

abbrev NoneTaken : List Bool → Type 0
NoneTaken [] = Unit {0}
NoneTaken (b ∷ bs) = (b ≡ false) × NoneTaken bs

-- what these arms do, where the bits tell which one is taken
abbrev Picks : World → Residual → Arms → List Bool → Type 0
Picks w y no_arm [] = y ≡ Skip
Picks w y no_arm (b ∷ bs) = ⊥
Picks w y (arm values other body rest) [] = ⊥
Picks w y (arm values other body rest) (b ∷ bs) = ((b ≡ true) × (y ≡ resolved w body) × NoneTaken bs) ⊎ ((b ≡ false) × Picks w y rest bs)

no_bits : (arms : Arms) → NoneTaken (none_taken arms)
no_bits no_arm = tt
no_bits (arm values other body rest) = (refl, no_bits rest)

picks_one : (w : World) (values : List Number) (other : Bool) (body : Residual) (rest : Arms) (y : Residual) (bits : List Bool) (takes : Bool) → Picks w y rest bits
    → Picks w (if takes then resolved w body else y) (arm values other body rest) (if takes then true ∷ none_taken rest else false ∷ bits)
picks_one w values other body rest y bits true h = inl (refl, refl, no_bits rest)
picks_one w values other body rest y bits false h = inr (refl, h)

picks_first : (w : World) (n : Number) (arms : Arms) → Picks w (arm_resolved w n arms) arms (first_chosen n arms)
picks_first w n no_arm = refl
picks_first w n (arm values other body rest) =
    picks_one w values other body rest (arm_resolved w n rest) (first_chosen n rest) (chooses n values) (picks_first w n rest)

picks_default : (w : World) (arms : Arms) → Picks w (default_resolved w arms) arms (first_default arms)
picks_default w no_arm = refl
picks_default w (arm values other body rest) = picks_one w values other body rest (default_resolved w rest) (first_default rest) other (picks_default w rest)

picks_either : (w : World) (n : Number) (arms : Arms) (chosen : Bool)
    → Picks w (if chosen then arm_resolved w n arms else default_resolved w arms) arms (if chosen then first_chosen n arms else first_default arms)
picks_either w n arms true = picks_first w n arms
picks_either w n arms false = picks_default w arms

picks : (w : World) (n : ℕ) (e : Expression) (arms : Arms) → Picks w (resolved w (Switch n e arms)) arms (taken_arms (number_of w e) arms)
picks w n e arms = picks_either w (number_of w e) arms (is_chosen (number_of w e) arms)

-- ---- one arm at most

-- each arm has nothing
abbrev Nothing : {A : Type 0} → (Residual → (ℕ → Bool) → A) → A → Arms → List ArmWires → Type 0
Nothing of nothing no_arm [] = Unit {0}
Nothing of nothing no_arm (x ∷ xs) = ⊥
Nothing of nothing (arm values other body rest) [] = ⊥
Nothing of nothing (arm values other body rest) (x ∷ xs) = (of body x.start ≡ nothing) × Nothing of nothing rest xs

-- one arm at most has something, and this is it
abbrev Only : {A : Type 0} → (Residual → (ℕ → Bool) → A) → A → A → Arms → List ArmWires → Type 0
Only of nothing it no_arm [] = it ≡ nothing
Only of nothing it no_arm (x ∷ xs) = ⊥
Only of nothing it (arm values other body rest) [] = ⊥
Only of nothing it (arm values other body rest) (x ∷ xs) =
    ((of body x.start ≡ it) × Nothing of nothing rest xs) ⊎ ((of body x.start ≡ nothing) × Only of nothing it rest xs)

nothing_by : {A B : Type 0} (f : A → B) (of : Residual → (ℕ → Bool) → A) (nothing : A) (arms : Arms) (wires : List ArmWires)
    → Nothing of nothing arms wires → Nothing (λ s start. f (of s start)) (f nothing) arms wires
nothing_by f of nothing no_arm [] h = tt
nothing_by f of nothing no_arm (x ∷ xs) h = absurd h
nothing_by f of nothing (arm values other body rest) [] h = absurd h
nothing_by f of nothing (arm values other body rest) (x ∷ xs) h = (ap f h.0, nothing_by f of nothing rest xs h.1)

only_by : {A B : Type 0} (f : A → B) (of : Residual → (ℕ → Bool) → A) (nothing it : A) (arms : Arms) (wires : List ArmWires)
    → Only of nothing it arms wires → Only (λ s start. f (of s start)) (f nothing) (f it) arms wires
only_by f of nothing it no_arm [] h = ap f h
only_by f of nothing it no_arm (x ∷ xs) h = absurd h
only_by f of nothing it (arm values other body rest) [] h = absurd h
only_by f of nothing it (arm values other body rest) (x ∷ xs) h =
    ⊎_elim (λ g. inl (ap f g.0, nothing_by f of nothing rest xs g.1)) (λ g. inr (ap f g.0, only_by f of nothing it rest xs g.1)) h

-- ---- what the arms stand at

abbrev held_in : Clocks → ℕ → Residual → (ℕ → Bool) → Option Residual
held_in c t s start = token_at c s start t

abbrev now_in : Clocks → ℕ → Residual → (ℕ → Bool) → Residual
now_in c t s start = current (c.world t) s (start t) (token_at c s start t)

-- each arm's start in a clock
abbrev Starts : ℕ → Bool → List ArmWires → Type 0
Starts t start [] = Unit {0}
Starts t start (x ∷ xs) = (x.start t ≡ (start && x.chosen t)) × Starts t start xs

all_starts : (t : ℕ) (start : Bool) (wires : List ArmWires) → ((i : ℕ) (x : ArmWires) → slice_get wires i ≡ Some x → x.start t ≡ (start && x.chosen t)) → Starts t start wires
all_starts t start [] h = tt
all_starts t start (x ∷ xs) h = (h zero x refl, all_starts t start xs (λ i y same. h (suc i) y same))

-- a start of any arm would be free
abbrev FreeAll : Clocks → ℕ → Arms → List ArmWires → Type 0
FreeAll c t no_arm [] = Unit {0}
FreeAll c t no_arm (x ∷ xs) = ⊥
FreeAll c t (arm values other body rest) [] = ⊥
FreeAll c t (arm values other body rest) (x ∷ xs) = IsFree (c.world t) true (token_at c body x.start t) × FreeAll c t rest xs

free_none : (c : Clocks) (t : ℕ) (arms : Arms) (wires : List ArmWires) → Nothing (held_in c t) None arms wires → FreeAll c t arms wires
free_none c t no_arm [] h = tt
free_none c t no_arm (x ∷ xs) h = absurd h
free_none c t (arm values other body rest) [] h = absurd h
free_none c t (arm values other body rest) (x ∷ xs) h = (rw h.0 (free_nowhere (c.world t) true), free_none c t rest xs h.1)

free_all : (c : Clocks) (t : ℕ) (held : Option Residual) (arms : Arms) (wires : List ArmWires) → IsFree (c.world t) true held → Only (held_in c t) None held arms wires
    → FreeAll c t arms wires
free_all c t held no_arm [] free h = tt
free_all c t held no_arm (x ∷ xs) free h = absurd h
free_all c t held (arm values other body rest) [] free h = absurd h
free_all c t held (arm values other body rest) (x ∷ xs) free h =
    ⊎_elim (λ g. (rw g.0 free, free_none c t rest xs g.1)) (λ g. (rw g.0 (free_nowhere (c.world t) true), free_all c t held rest xs free g.1)) h

none_started : (c : Clocks) (t : ℕ) (arms : Arms) (wires : List ArmWires) → FreeAll c t arms wires → Starts t true wires → NoneTaken (map (λ x. x.chosen t) wires)
    → Nothing (now_in c t) Skip arms wires
none_started c t no_arm [] free starts none = tt
none_started c t no_arm (x ∷ xs) free starts none = absurd free
none_started c t (arm values other body rest) [] free starts none = absurd free
none_started c t (arm values other body rest) (x ∷ xs) free starts none =
    (rw (starts.0, none.0) (ended_now (c.world t) body (token_at c body x.start t) free.0), none_started c t rest xs free.1 starts.1 none.1)

one_started : (c : Clocks) (t : ℕ) (y : Residual) (arms : Arms) (wires : List ArmWires) → FreeAll c t arms wires → Starts t true wires
    → Picks (c.world t) y arms (map (λ x. x.chosen t) wires) → Only (now_in c t) Skip y arms wires
one_started c t y no_arm [] free starts h = h
one_started c t y no_arm (x ∷ xs) free starts h = absurd h
one_started c t y (arm values other body rest) [] free starts h = absurd h
one_started c t y (arm values other body rest) (x ∷ xs) free starts h =
    ⊎_elim (λ g. inl (rw (starts.0, g.0, g.1) refl, none_started c t rest xs free.1 starts.1 g.2))
    (λ g. inr (rw (starts.0, g.0) (ended_now (c.world t) body (token_at c body x.start t) free.0), one_started c t y rest xs free.1 starts.1 g.1)) h

-- what goes on where nothing starts
abbrev resumed : World → Option Residual → Residual
resumed w None = Skip
resumed w (Some r) = resolved w r

goes_on : (w : World) (s : Residual) (start : Bool) (held : Option Residual) → start ≡ false → current w s start held ≡ resumed w held
goes_on w s true held is = absurd cc
goes_on w s false None is = refl
goes_on w s false (Some r) is = refl

none_resumed : (c : Clocks) (t : ℕ) (arms : Arms) (wires : List ArmWires) → Starts t false wires → Nothing (held_in c t) None arms wires
    → Nothing (now_in c t) Skip arms wires
none_resumed c t no_arm [] starts h = tt
none_resumed c t no_arm (x ∷ xs) starts h = absurd h
none_resumed c t (arm values other body rest) [] starts h = absurd h
none_resumed c t (arm values other body rest) (x ∷ xs) starts h =
    (goes_on (c.world t) body (x.start t) (token_at c body x.start t) starts.0 ∙ ap (resumed (c.world t)) h.0, none_resumed c t rest xs starts.1 h.1)

one_resumed : (c : Clocks) (t : ℕ) (held : Option Residual) (arms : Arms) (wires : List ArmWires) → Starts t false wires → Only (held_in c t) None held arms wires
    → Only (now_in c t) Skip (resumed (c.world t) held) arms wires
one_resumed c t held no_arm [] starts h = ap (resumed (c.world t)) h
one_resumed c t held no_arm (x ∷ xs) starts h = absurd h
one_resumed c t held (arm values other body rest) [] starts h = absurd h
one_resumed c t held (arm values other body rest) (x ∷ xs) starts h =
    let now = goes_on (c.world t) body (x.start t) (token_at c body x.start t) starts.0 in
    ⊎_elim (λ g. inl (now ∙ ap (resumed (c.world t)) g.0, none_resumed c t rest xs starts.1 g.1))
    (λ g. inr (now ∙ ap (resumed (c.world t)) g.0, one_resumed c t held rest xs starts.1 g.1)) h

-- ---- one clock

-- each arm's start is free
abbrev FairAll : Clocks → ℕ → Arms → List ArmWires → Type 0
FairAll c t no_arm [] = Unit {0}
FairAll c t no_arm (x ∷ xs) = ⊥
FairAll c t (arm values other body rest) [] = ⊥
FairAll c t (arm values other body rest) (x ∷ xs) = IsFair c body x.start t × FairAll c t rest xs

fair_started : (c : Clocks) (t : ℕ) (arms : Arms) (wires : List ArmWires) → FreeAll c t arms wires → FairAll c t arms wires
fair_started c t no_arm [] free = tt
fair_started c t no_arm (x ∷ xs) free = absurd free
fair_started c t (arm values other body rest) [] free = absurd free
fair_started c t (arm values other body rest) (x ∷ xs) free = (λ is. free.0 refl, fair_started c t rest xs free.1)

fair_idle : {A : Type 0} (c : Clocks) (t : ℕ) (of : Residual → (ℕ → Bool) → A) (nothing : A) (arms : Arms) (wires : List ArmWires) → Starts t false wires
    → Nothing of nothing arms wires → FairAll c t arms wires
fair_idle c t of nothing no_arm [] starts h = tt
fair_idle c t of nothing no_arm (x ∷ xs) starts h = absurd h
fair_idle c t of nothing (arm values other body rest) [] starts h = absurd h
fair_idle c t of nothing (arm values other body rest) (x ∷ xs) starts h =
    (rw starts.0 (free_idle (c.world t) (token_at c body x.start t)), fair_idle c t of nothing rest xs starts.1 h.1)

fair_resumed : {A : Type 0} (c : Clocks) (t : ℕ) (of : Residual → (ℕ → Bool) → A) (nothing it : A) (arms : Arms) (wires : List ArmWires) → Starts t false wires
    → Only of nothing it arms wires → FairAll c t arms wires
fair_resumed c t of nothing it no_arm [] starts h = tt
fair_resumed c t of nothing it no_arm (x ∷ xs) starts h = absurd h
fair_resumed c t of nothing it (arm values other body rest) [] starts h = absurd h
fair_resumed c t of nothing it (arm values other body rest) (x ∷ xs) starts h = (
  rw starts.0 (free_idle (c.world t) (token_at c body x.start t)),
  ⊎_elim (λ g. fair_idle c t of nothing rest xs starts.1 g.1) (λ g. fair_resumed c t of nothing it rest xs starts.1 g.1) h,
)

record Clock (c : Clocks) (t : ℕ) (whole : Residual) (start : Bool) (held : Option Residual) (arms : Arms) (wires : List ArmWires) : Type 0 where
  fair : FairAll c t arms wires
  now : Only (now_in c t) Skip (current (c.world t) whole start held) arms wires

one_clock : (c : Clocks) (t : ℕ) (whole : Residual) (start : Bool) (held : Option Residual) (arms : Arms) (wires : List ArmWires)
    → Picks (c.world t) (resolved (c.world t) whole) arms (map (λ x. x.chosen t) wires) → Starts t start wires → IsFree (c.world t) start held
    → Only (held_in c t) None held arms wires → Clock c t whole start held arms wires
one_clock c t whole true held arms wires taken starts free h =
    let each = free_all c t held arms wires free h in
    record { fair = fair_started c t arms wires each; now = one_started c t (resolved (c.world t) whole) arms wires each starts taken }
one_clock c t whole false held arms wires taken starts free h = record {
  fair = fair_resumed c t (held_in c t) None held arms wires starts h;
  now = rw (goes_on (c.world t) whole false held refl) (one_resumed c t held arms wires starts h);
}

-- ---- passes, ends and enabled actions

abbrev TellAll : Clocks → ℕ → Arms → List ArmWires → Type 0
TellAll c t no_arm [] = Unit {0}
TellAll c t no_arm (x ∷ xs) = ⊥
TellAll c t (arm values other body rest) [] = ⊥
TellAll c t (arm values other body rest) (x ∷ xs) =
    Tells (c.world t) body (x.start t) (x.pass t) (x.finish t) (token_at c body x.start t) × TellAll c t rest xs

passes_one : (w : World) (s y : Residual) (chosen pass later : Bool) (Rest Later : Type 0) → (chosen ≡ true → pass ≡ is_skip (resolved w s)) → (Later → later ≡ is_skip y)
    → ((chosen ≡ true) × (y ≡ resolved w s) × Rest) ⊎ ((chosen ≡ false) × Later) → (if chosen then pass else later) ≡ is_skip y
passes_one w s y chosen pass later Rest Later first second h =
    ⊎_elim (λ g. rw (g.0, g.1) (first g.0)) (λ g. rw g.0 (second g.1)) h

passes_chosen : (c : Clocks) (t : ℕ) (y : Residual) (arms : Arms) (wires : List ArmWires) → TellAll c t arms wires → Starts t true wires
    → Picks (c.world t) y arms (map (λ x. x.chosen t) wires) → chosen_pass wires t ≡ is_skip y
passes_chosen c t y no_arm [] tell starts h = rw h refl
passes_chosen c t y no_arm (x ∷ xs) tell starts h = absurd h
passes_chosen c t y (arm values other body rest) [] tell starts h = absurd h
passes_chosen c t y (arm values other body rest) (x ∷ xs) tell starts h =
    passes_one (c.world t) body y (x.chosen t) (x.pass t) (chosen_pass xs t) (NoneTaken (map (λ z. z.chosen t) xs))
    (Picks (c.world t) y rest (map (λ z. z.chosen t) xs)) (λ is. tell.0.passes (starts.0 ∙ is)) (passes_chosen c t y rest xs tell.1 starts.1) h

no_finish : (c : Clocks) (t : ℕ) (arms : Arms) (wires : List ArmWires) → TellAll c t arms wires → Nothing (held_in c t) None arms wires → some_finish wires t ≡ false
no_finish c t no_arm [] tell h = refl
no_finish c t no_arm (x ∷ xs) tell h = absurd h
no_finish c t (arm values other body rest) [] tell h = absurd h
no_finish c t (arm values other body rest) (x ∷ xs) tell h = rw (tell.0.finishes, h.0) (no_finish c t rest xs tell.1 h.1)

finishes_one : (c : Clocks) (t : ℕ) (held : Option Residual) (arms : Arms) (wires : List ArmWires) → TellAll c t arms wires → Only (held_in c t) None held arms wires
    → some_finish wires t ≡ ends (c.world t) held
finishes_one c t held no_arm [] tell h = rw h refl
finishes_one c t held no_arm (x ∷ xs) tell h = absurd h
finishes_one c t held (arm values other body rest) [] tell h = absurd h
finishes_one c t held (arm values other body rest) (x ∷ xs) tell h =
    ⊎_elim (λ g. rw (tell.0.finishes, g.0, no_finish c t rest xs tell.1 g.1) (or_false (ends (c.world t) held)))
    (λ g. rw (tell.0.finishes, g.0) (finishes_one c t held rest xs tell.1 g.1)) h

-- what each arm shows
abbrev ShowAll : Clocks → ℕ → Arms → List ArmWires → Type 0
ShowAll c t no_arm [] = Unit {0}
ShowAll c t no_arm (x ∷ xs) = ⊥
ShowAll c t (arm values other body rest) [] = ⊥
ShowAll c t (arm values other body rest) (x ∷ xs) = (x.enabled t ≡ front (now_in c t body x.start)) × ShowAll c t rest xs

none_enabled : (c : Clocks) (t : ℕ) (arms : Arms) (wires : List ArmWires) → ShowAll c t arms wires → Nothing (now_in c t) Skip arms wires → arms_enabled wires t ≡ []
none_enabled c t no_arm [] shown h = refl
none_enabled c t no_arm (x ∷ xs) shown h = absurd h
none_enabled c t (arm values other body rest) [] shown h = absurd h
none_enabled c t (arm values other body rest) (x ∷ xs) shown h = rw (shown.0, h.0) (none_enabled c t rest xs shown.1 h.1)

one_enabled : (c : Clocks) (t : ℕ) (y : Residual) (arms : Arms) (wires : List ArmWires) → ShowAll c t arms wires → Only (now_in c t) Skip y arms wires
    → arms_enabled wires t ≡ front y
one_enabled c t y no_arm [] shown h = rw h refl
one_enabled c t y no_arm (x ∷ xs) shown h = absurd h
one_enabled c t y (arm values other body rest) [] shown h = absurd h
one_enabled c t y (arm values other body rest) (x ∷ xs) shown h =
    ⊎_elim (λ g. rw (shown.0, g.0, none_enabled c t rest xs shown.1 g.1) (append-nil (front y)))
    (λ g. rw (shown.0, g.0) (one_enabled c t y rest xs shown.1 g.1)) h

-- ---- what is asked

-- what all arms ask; of it, what is left of them asks, and what their starts ask
abbrev all_asked : Clocks → ℕ → Arms → List ArmWires → List Condition
all_asked c t no_arm xs = []
all_asked c t (arm values other body rest) [] = []
all_asked c t (arm values other body rest) (x ∷ xs) = asked (c.world t) body (x.start t) (token_at c body x.start t) ++ all_asked c t rest xs

abbrev rests_asked : Clocks → ℕ → Arms → List ArmWires → List Condition
rests_asked c t no_arm xs = []
rests_asked c t (arm values other body rest) [] = []
rests_asked c t (arm values other body rest) (x ∷ xs) = rest_asked (c.world t) (token_at c body x.start t) ++ rests_asked c t rest xs

abbrev starts_asked : Clocks → ℕ → Arms → List ArmWires → List Condition
starts_asked c t no_arm xs = []
starts_asked c t (arm values other body rest) [] = []
starts_asked c t (arm values other body rest) (x ∷ xs) = (if x.start t then evaluated (c.world t) body else []) ++ starts_asked c t rest xs

asked_apart : (c : Clocks) (t : ℕ) (arms : Arms) (wires : List ArmWires) → SameMembers (all_asked c t arms wires) (rests_asked c t arms wires ++ starts_asked c t arms wires)
asked_apart c t no_arm xs = same_refl []
asked_apart c t (arm values other body rest) [] = same_refl []
asked_apart c t (arm values other body rest) (x ∷ xs) =
    let r = rest_asked (c.world t) (token_at c body x.start t) in
    let s = if x.start t then evaluated (c.world t) body else [] in
    rw (asked_is (c.world t) body (x.start t) (token_at c body x.start t))
    (same_trans (same_append (same_refl (r ++ s)) (asked_apart c t rest xs))
    (same_by (r ∷ s ∷ rests_asked c t rest xs ∷ starts_asked c t rest xs ∷ []) (plus (plus (at 0) (at 1)) (plus (at 2) (at 3)))
    (plus (plus (at 0) (at 2)) (plus (at 1) (at 3))) refl refl))

no_rests : (c : Clocks) (t : ℕ) (arms : Arms) (wires : List ArmWires) → Nothing (held_in c t) None arms wires → rests_asked c t arms wires ≡ []
no_rests c t no_arm [] h = refl
no_rests c t no_arm (x ∷ xs) h = absurd h
no_rests c t (arm values other body rest) [] h = absurd h
no_rests c t (arm values other body rest) (x ∷ xs) h = rw (h.0) (no_rests c t rest xs h.1)

one_rest : (c : Clocks) (t : ℕ) (held : Option Residual) (arms : Arms) (wires : List ArmWires) → Only (held_in c t) None held arms wires
    → rests_asked c t arms wires ≡ rest_asked (c.world t) held
one_rest c t held no_arm [] h = rw h refl
one_rest c t held no_arm (x ∷ xs) h = absurd h
one_rest c t held (arm values other body rest) [] h = absurd h
one_rest c t held (arm values other body rest) (x ∷ xs) h =
    ⊎_elim (λ g. rw (g.0, no_rests c t rest xs g.1) (append-nil (rest_asked (c.world t) held))) (λ g. rw (g.0) (one_rest c t held rest xs g.1)) h

-- what the arms ask that bits take
abbrev taken_asked : World → Arms → List Bool → List Condition
taken_asked w no_arm bits = []
taken_asked w (arm values other body rest) [] = []
taken_asked w (arm values other body rest) (b ∷ bits) = (if b then evaluated w body else []) ++ taken_asked w rest bits

none_asked : (w : World) (arms : Arms) → taken_asked w arms (none_taken arms) ≡ []
none_asked w no_arm = refl
none_asked w (arm values other body rest) = none_asked w rest

asked_one : (w : World) (values : List Number) (other : Bool) (body : Residual) (rest : Arms) (y : List Condition) (bits : List Bool) (takes : Bool)
    → taken_asked w rest bits ≡ y
    → taken_asked w (arm values other body rest) (if takes then true ∷ none_taken rest else false ∷ bits) ≡ (if takes then evaluated w body else y)
asked_one w values other body rest y bits true h = rw (none_asked w rest) (append-nil (evaluated w body))
asked_one w values other body rest y bits false h = h

asked_first : (w : World) (n : Number) (arms : Arms) → taken_asked w arms (first_chosen n arms) ≡ arm_evaluated w n arms
asked_first w n no_arm = refl
asked_first w n (arm values other body rest) =
    asked_one w values other body rest (arm_evaluated w n rest) (first_chosen n rest) (chooses n values) (asked_first w n rest)

asked_default : (w : World) (arms : Arms) → taken_asked w arms (first_default arms) ≡ default_evaluated w arms
asked_default w no_arm = refl
asked_default w (arm values other body rest) =
    asked_one w values other body rest (default_evaluated w rest) (first_default rest) other (asked_default w rest)

asked_either : (w : World) (n : Number) (arms : Arms) (chosen : Bool)
    → taken_asked w arms (if chosen then first_chosen n arms else first_default arms) ≡ (if chosen then arm_evaluated w n arms else default_evaluated w arms)
asked_either w n arms true = asked_first w n arms
asked_either w n arms false = asked_default w arms

starts_taken : (c : Clocks) (t : ℕ) (arms : Arms) (wires : List ArmWires) → Starts t true wires
    → starts_asked c t arms wires ≡ taken_asked (c.world t) arms (map (λ x. x.chosen t) wires)
starts_taken c t no_arm xs starts = refl
starts_taken c t (arm values other body rest) [] starts = refl
starts_taken c t (arm values other body rest) (x ∷ xs) starts = rw (starts.0, starts_taken c t rest xs starts.1) refl

starts_idle : (c : Clocks) (t : ℕ) (arms : Arms) (wires : List ArmWires) → Starts t false wires → starts_asked c t arms wires ≡ []
starts_idle c t no_arm xs starts = refl
starts_idle c t (arm values other body rest) [] starts = refl
starts_idle c t (arm values other body rest) (x ∷ xs) starts = rw (starts.0) (starts_idle c t rest xs starts.1)

-- the selector, the arms and the whole
asked_switch : (c : Clocks) (t n : ℕ) (e : Expression) (arms : Arms) (wires : List ArmWires) (start : Bool) (held : Option Residual) → Only (held_in c t) None held arms wires
    → Starts t start wires → map (λ x. x.chosen t) wires ≡ taken_arms (number_of (c.world t) e) arms
    → SameMembers ((if start then record { number = n; value = e } ∷ [] else []) ++ all_asked c t arms wires) (asked (c.world t) (Switch n e arms) start held)
asked_switch c t n e arms wires true held h starts is =
    let q : List Condition = record { number = n; value = e } ∷ [] in
    let r = rest_asked (c.world t) held in
    let y = taken_asked (c.world t) arms (taken_arms (number_of (c.world t) e) arms) in
    rw (asked_is (c.world t) (Switch n e arms) true held, ← asked_either (c.world t) (number_of (c.world t) e) arms (is_chosen (number_of (c.world t) e) arms))
    (same_trans (same_append (same_refl q) (asked_apart c t arms wires))
    (rw (one_rest c t held arms wires h, starts_taken c t arms wires starts, is)
    (same_by (q ∷ r ∷ y ∷ []) (plus (at 0) (plus (at 1) (at 2))) (plus (at 1) (plus (at 0) (at 2))) refl refl)))
asked_switch c t n e arms wires false held h starts is =
    rw (asked_is (c.world t) (Switch n e arms) false held)
    (same_trans (asked_apart c t arms wires)
    (rw (one_rest c t held arms wires h, starts_idle c t arms wires starts) (same_refl (rest_asked (c.world t) held ++ []))))

-- ---- all clocks

abbrev BeforeAll : Clocks → (ℕ → Type 0) → ℕ → Arms → List ArmWires → Type 0
BeforeAll c Good t no_arm [] = Unit {0}
BeforeAll c Good t no_arm (x ∷ xs) = ⊥
BeforeAll c Good t (arm values other body rest) [] = ⊥
BeforeAll c Good t (arm values other body rest) (x ∷ xs) = IsFairBefore c Good body x.start t × BeforeAll c Good t rest xs

before_first : (c : Clocks) (Good : ℕ → Type 0) (arms : Arms) (wires : List ArmWires) → FollowArms c Good arms wires → BeforeAll c Good zero arms wires
before_first c Good no_arm [] follow = tt
before_first c Good no_arm (x ∷ xs) follow = absurd follow
before_first c Good (arm values other body rest) [] follow = absurd follow
before_first c Good (arm values other body rest) (x ∷ xs) follow = (fair_at_first c Good body x.start, before_first c Good rest xs follow.1)

before_next : (c : Clocks) (Good : ℕ → Type 0) (t : ℕ) (arms : Arms) (wires : List ArmWires) → Good t → BeforeAll c Good t arms wires → FairAll c t arms wires
    → BeforeAll c Good (suc t) arms wires
before_next c Good t no_arm [] good before fair = tt
before_next c Good t no_arm (x ∷ xs) good before fair = absurd before
before_next c Good t (arm values other body rest) [] good before fair = absurd before
before_next c Good t (arm values other body rest) (x ∷ xs) good before fair =
    (fair_next c Good body x.start t before.0 good fair.0, before_next c Good t rest xs good before.1 fair.1)

tell_all : (c : Clocks) (Good : ℕ → Type 0) (t : ℕ) (arms : Arms) (wires : List ArmWires) → FollowArms c Good arms wires → BeforeAll c Good t arms wires → Good t
    → TellAll c t arms wires
tell_all c Good t no_arm [] follow before good = tt
tell_all c Good t no_arm (x ∷ xs) follow before good = absurd follow
tell_all c Good t (arm values other body rest) [] follow before good = absurd follow
tell_all c Good t (arm values other body rest) (x ∷ xs) follow before good =
    (tells c Good body x.start x.pass x.finish x.enabled x.tested follow.0 t before.0 good, tell_all c Good t rest xs follow.1 before.1 good)

show_all : (c : Clocks) (Good : ℕ → Type 0) (t : ℕ) (arms : Arms) (wires : List ArmWires) → FollowArms c Good arms wires → BeforeAll c Good t arms wires → Good t
    → FairAll c t arms wires → ShowAll c t arms wires
show_all c Good t no_arm [] follow before good fair = tt
show_all c Good t no_arm (x ∷ xs) follow before good fair = absurd follow
show_all c Good t (arm values other body rest) [] follow before good fair = absurd follow
show_all c Good t (arm values other body rest) (x ∷ xs) follow before good fair =
    (follow.0.enables t before.0 good fair.0, show_all c Good t rest xs follow.1 before.1 good fair.1)

test_all : (c : Clocks) (Good : ℕ → Type 0) (t : ℕ) (arms : Arms) (wires : List ArmWires) → FollowArms c Good arms wires → BeforeAll c Good t arms wires → Good t
    → FairAll c t arms wires → SameMembers (arms_tested wires t) (all_asked c t arms wires)
test_all c Good t no_arm [] follow before good fair = same_refl []
test_all c Good t no_arm (x ∷ xs) follow before good fair = absurd follow
test_all c Good t (arm values other body rest) [] follow before good fair = absurd follow
test_all c Good t (arm values other body rest) (x ∷ xs) follow before good fair =
    same_append (follow.0.tests t before.0 good fair.0) (test_all c Good t rest xs follow.1 before.1 good fair.1)

first_nothing : (c : Clocks) (Good : ℕ → Type 0) (arms : Arms) (wires : List ArmWires) → FollowArms c Good arms wires → Only (held_in c zero) None None arms wires
first_nothing c Good no_arm [] follow = refl
first_nothing c Good no_arm (x ∷ xs) follow = absurd follow
first_nothing c Good (arm values other body rest) [] follow = absurd follow
first_nothing c Good (arm values other body rest) (x ∷ xs) follow = inr (refl, first_nothing c Good rest xs follow.1)

-- what is known of all arms behind the clocks before t
record ArmsAt (c : Clocks) (Good : ℕ → Type 0) (whole : Residual) (start : ℕ → Bool) (arms : Arms) (wires : List ArmWires) (t : ℕ) : Type 0 where
  held : Only (held_in c t) None (token_at c whole start t) arms wires
  before : BeforeAll c Good t arms wires

module _ (c : Clocks) (Good : ℕ → Type 0) (n : ℕ) (e : Expression) (arms : Arms) (wires : List ArmWires) (start pass finish : ℕ → Bool)
    (follow : FollowArms c Good arms wires) (switched : IsSwitched Good (λ t. taken_arms (number_of (c.world t) e) arms) wires start pass finish) where
  taken_at : (t : ℕ) → Good t → Picks (c.world t) (resolved (c.world t) (Switch n e arms)) arms (map (λ x. x.chosen t) wires)
  taken_at t good =
      subst (Picks (c.world t) (resolved (c.world t) (Switch n e arms)) arms) (sym (switched.chooses t good)) (picks (c.world t) n e arms)

  clock_at : (t : ℕ) → Good t → IsFair c (Switch n e arms) start t → ArmsAt c Good (Switch n e arms) start arms wires t
      → Clock c t (Switch n e arms) (start t) (token_at c (Switch n e arms) start t) arms wires
  clock_at t good fair o =
      one_clock c t (Switch n e arms) (start t) (token_at c (Switch n e arms) start t) arms wires (taken_at t good)
      (all_starts t (start t) wires (switched.starts t)) fair o.held

  arms_at : (t : ℕ) → IsFairBefore c Good (Switch n e arms) start t → ArmsAt c Good (Switch n e arms) start arms wires t
  arms_at = over_clocks c Good (Switch n e arms) start (ArmsAt c Good (Switch n e arms) start arms wires)
      (record { held = first_nothing c Good arms wires follow; before = before_first c Good arms wires follow })
      (λ t good fair o. let clock = clock_at t good fair o in record {
        held = only_by (held_behind (c.world t) (c.leaves t)) (now_in c t) Skip (current (c.world t) (Switch n e arms) (start t) (token_at c (Switch n e arms) start t)) arms wires
            clock.now;
        before = before_next c Good t arms wires good o.before clock.fair;
      })

  passes_at : (t : ℕ) → Good t → ArmsAt c Good (Switch n e arms) start arms wires t → start t ≡ true → pass t ≡ is_skip (resolved (c.world t) (Switch n e arms))
  passes_at t good o is =
      switched.passes t good
      ∙ passes_chosen c t (resolved (c.world t) (Switch n e arms)) arms wires (tell_all c Good t arms wires follow o.before good)
      (subst (λ b. Starts t b wires) is (all_starts t (start t) wires (switched.starts t))) (taken_at t good)

  finishes_at : (t : ℕ) → Good t → ArmsAt c Good (Switch n e arms) start arms wires t → finish t ≡ ends (c.world t) (token_at c (Switch n e arms) start t)
  finishes_at t good o =
      switched.finishes t ∙ finishes_one c t (token_at c (Switch n e arms) start t) arms wires (tell_all c Good t arms wires follow o.before good) o.held

  enables_at : (t : ℕ) → Good t → IsFair c (Switch n e arms) start t → ArmsAt c Good (Switch n e arms) start arms wires t
      → arms_enabled wires t ≡ front (current (c.world t) (Switch n e arms) (start t) (token_at c (Switch n e arms) start t))
  enables_at t good fair o =
      let clock = clock_at t good fair o in
      one_enabled c t _ arms wires (show_all c Good t arms wires follow o.before good clock.fair) clock.now

  tests_at : (t : ℕ) → Good t → IsFair c (Switch n e arms) start t → ArmsAt c Good (Switch n e arms) start arms wires t
      → SameMembers ((if start t then record { number = n; value = e } ∷ [] else []) ++ arms_tested wires t)
      (asked (c.world t) (Switch n e arms) (start t) (token_at c (Switch n e arms) start t))
  tests_at t good fair o =
      same_trans (same_append (same_refl _) (test_all c Good t arms wires follow o.before good (clock_at t good fair o).fair))
      (asked_switch c t n e arms wires (start t) _ o.held (all_starts t (start t) wires (switched.starts t)) (switched.chooses t good))

  pub follows_switch : Follows c Good (Switch n e arms) start pass finish (arms_enabled wires)
      (λ t. (if start t then record { number = n; value = e } ∷ [] else []) ++ arms_tested wires t)
  follows_switch = record {
    passes = λ t before good. passes_at t good (arms_at t before);
    finishes = λ t before good. finishes_at t good (arms_at t before);
    enables = λ t before good fair. enables_at t good fair (arms_at t before);
    tests = λ t before good fair. tests_at t good fair (arms_at t before);
  }

-- ---- the pass of the chosen arm as gates

-- one arm at most is chosen
abbrev OneAtMost : List Bool → Type 0
OneAtMost [] = Unit {0}
OneAtMost (b ∷ bs) = ((b ≡ true) × NoneTaken bs) ⊎ ((b ≡ false) × OneAtMost bs)

one_at_most : (w : World) (y : Residual) (arms : Arms) (bits : List Bool) → Picks w y arms bits → OneAtMost bits
one_at_most w y no_arm [] h = tt
one_at_most w y no_arm (b ∷ bs) h = absurd h
one_at_most w y (arm values other body rest) [] h = absurd h
one_at_most w y (arm values other body rest) (b ∷ bs) h = ⊎_elim (λ g. inl (g.0, g.2)) (λ g. inr (g.0, one_at_most w y rest bs g.1)) h

no_pass : (t : ℕ) (wires : List ArmWires) → NoneTaken (map (λ x. x.chosen t) wires) → some_pass wires t ≡ false
no_pass t [] h = refl
no_pass t (x ∷ xs) h = rw h.0 (no_pass t xs h.1)

pass_by_gates : (t : ℕ) (wires : List ArmWires) → OneAtMost (map (λ x. x.chosen t) wires) → (some_pass wires t || not (some_chosen wires t)) ≡ chosen_pass wires t
pass_by_gates t [] h = refl
pass_by_gates t (x ∷ xs) h =
    ⊎_elim (λ g. rw (g.0, no_pass t xs g.1) (or_false (x.pass t || false) ∙ or_false (x.pass t))) (λ g. rw g.0 (pass_by_gates t xs g.1)) h

-- where the arm that is taken is the chosen one, the whole is passed where a chosen arm is, or none is chosen
pub passes_by_gates : (e : Expression) (arms : Arms) (w : World) (wires : List ArmWires) (t : ℕ) → map (λ x. x.chosen t) wires ≡ taken_arms (number_of w e) arms
    → chosen_pass wires t ≡ (some_pass wires t || not (some_chosen wires t))
passes_by_gates e arms w wires t is =
    sym (pass_by_gates t wires (subst OneAtMost (sym is) (one_at_most w (resolved w (Switch zero e arms)) arms (taken_arms (number_of w e) arms) (picks w zero e arms))))
