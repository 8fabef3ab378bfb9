use Rattle.std.proofs.Common.{sym, ◌∙◌, ◌≡◌, subst, true, None, length, ℕ, ◌++◌, ◌∷◌, []}
use Rattle.hc_outside.specs.MemFiles.{own_place, name_at-place, Sets-push, is_place-push, is_place, names, find_file}
use Rattle.hc_outside.proofs.mem_files.set_file.Goals as goal

pub replace_at-requires : goal.replace_at-requires
replace_at-requires c =
    let place : is_place c.in-Some.i c.args.name.now (names c.args.files.now.items) ≡ true = rw (← c.deref.ensures.value) c.in-Some.ensures.place in
    own_place c.in-Some.i c.args.name.now c.args.files.now.items place

pub returns-in_ok-replace_at-in-Some-clause-sets :
    goal.returns-in_ok-replace_at-in-Some-clause-sets
returns-in_ok-replace_at-in-Some-clause-sets c =
    let place : is_place c.in-Some.i c.args.name.now (names c.args.files.now.items) ≡ true = rw (← c.deref.ensures.value) c.in-Some.ensures.place in
    rw (name_at-place c.in-Some.i c.args.name.now c.args.files.now.items place) at c.in_ok-replace_at-in-Some.ensures.ok

pub returns-in_ok-push_file-in-None-clause-sets : goal.returns-in_ok-push_file-in-None-clause-sets
returns-in_ok-push_file-in-None-clause-sets c =
    let none : find_file c.args.name.now c.args.files.now.items ≡ None = rw (← c.deref.ensures.value) c.in-None.ensures.place in
    rw c.in_ok-push_file-in-None.ensures.ok (Sets-push c.args.name.now c.args.bytes.now c.args.files.now.items none)

pub returns-in_ok-push_file-in-None-clause-place :
    goal.returns-in_ok-push_file-in-None-clause-place
returns-in_ok-push_file-in-None-clause-place c =
    let files = c.args.files.now.items in
    let none : find_file c.args.name.now files ≡ None = rw (← c.deref.ensures.value) c.in-None.ensures.place in
    let at_end : length files ≡ c.len-i.result = sym c.args.files.now.ok.0 ∙ sym c.len-i.ensures in
    rw c.in_ok-push_file-in-None.ensures.ok
    (subst (λ (i : ℕ). is_place i c.args.name.now (names (files ++ (c.args.name.now, c.args.bytes.now) ∷ [])) ≡ true) at_end
    (is_place-push c.args.name.now c.args.bytes.now files none))
