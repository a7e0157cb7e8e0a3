-- Each export keeps the numbers of its worker's files.
use Rattle.fx_server.proofs.{rules, arith, ℤ, ◌≡◌, inl, inr, ℕ, Option, Some, None, Ok, Err, refl, ap, Identity, Put, File, Opening, PlacedFile, At}
use Rattle.fx_server.proofs.{PassView, EmptySlot, Retired, opening_of, view_of, PutEmpty, Key, KeyFault, LastingPass, TriedPut, Full, Again, Start}
use Rattle.fx_server.proofs.{TriedSo, TakesAlone, HasPutEmpty, HasSearched, GetsAtAs, KeepsIfFound, PutsAt, ReleasesAs, get, RemovesAtAs, RetiresAny}
use Rattle.fx_server.proofs.{ChecksCurrentAs, UsesIfTried, GetsAs, RemovesAs, RemovesByOne, ReplacesByOne, after_draw, after_keep, without_kept}
use Rattle.fx_server.proofs.{KeepsItsNumbers, hold_in, its_opening, its_pass, its_start, CoreOutcome, TableWorker, file_with, ExportsKeepNumbers}
use Rattle.fx_server.proofs.{IsExportCall, get_at, release, is_current, insert, replace_at, replace, remove_at, remove, find, put_empty, AddsNone}
use Rattle.fx_server.proofs.{AddsOne, Grows, added_after, added_none, added_one, none_then, both_none, held_none, installs, installs_kept, keeps}
use Rattle.fx_server.proofs.{key_none, looked_none, number_of_new, one_then, released_none, retired_none, spends, same_none, stays}
use Rattle.fx_lasting.specs.declared.answers.FoundSlot.{FoundSlot}
use Rattle.fx_lasting.specs.declared.answers.FoundSlot.TheVariants as found
use Rattle.fx_lasting.specs.declared.answers.PutEmpty.TheVariants as empty

same : (w w' : TableWorker) → w' ≡ w → AddsNone (its_pass w) (its_pass w')
same w w' is = same_none (its_pass w) (its_pass w') (ap its_pass is)

-- calls that install nothing

get_at_none : (w w' : TableWorker) (slot : ℕ) (answer : ℤ) (out : CoreOutcome) → GetsAtAs w slot answer out w' → AddsNone (its_pass w) (its_pass w')
get_at_none w w' slot answer out it = elim it.looked [
  | inl (held, _, _, looks) ↦ looked_none (its_opening w) (its_pass w) slot (Ok (hold_in held)) looks.freed (its_pass w') looks.looked
  | inr (inl none) ↦ looked_none (its_opening w) (its_pass w) slot (Err EmptySlot) none.2.freed (its_pass w') none.2.looked
  | inr (inr refused) ↦ same w w' refused.0
]

get_none : (w w' : TableWorker) (key : Key) (answer : ℤ) (out : CoreOutcome) → GetsAs w key answer out w' → AddsNone (its_pass w) (its_pass w')
get_none w w' key answer out it = elim it.found [
  | inl (held, _, _, looks) ↦ key_none (its_start w) (its_pass w) key (Ok (hold_in held)) looks.freed looks.released (its_pass w') looks.looked
  | inr (inl none) ↦ key_none (its_start w) (its_pass w) key (Err none.why) none.looks.freed none.looks.released (its_pass w') none.looks.looked
  | inr (inr refused) ↦ same w w' refused.0
]

release_none : (w w' : TableWorker) (answer : ℤ) (dropped : ℕ) → ReleasesAs w answer dropped w' → AddsNone (its_pass w) (its_pass w')
release_none w w' answer dropped it = elim it.released [
  | inl out ↦ released_none (its_opening w) (its_pass w) out.6.0 out.1 (its_pass w') out.6.2
  | inr idle ↦ same w w' idle.3
]

is_current_none : (w w' : TableWorker) (slot : ℕ) (answer : ℤ) → ChecksCurrentAs w slot answer w' → AddsNone (its_pass w) (its_pass w')
is_current_none w w' slot answer it = elim it.checked [
  | inl (_, _, inl one) ↦ added_none (its_opening w) (its_pass w) _ _ _ (its_pass w') one.checks.adds tt
  | inl (_, _, inr none) ↦ same w w' none.0
  | inr idle ↦ same w w' idle.0
]

remove_at_none : (w w' : TableWorker) (slot : ℕ) (answer : ℤ) (out : CoreOutcome) → RemovesAtAs w slot answer out w' → AddsNone (its_pass w) (its_pass w')
remove_at_none w w' slot answer out it = elim it.removed [
  | inl takes ↦ both_none (its_pass w) takes.between (its_pass w') (added_none (its_opening w) (its_pass w) _ _ _ takes.between takes.taken.2 (refl, tt))
      (retired_none (its_opening w) takes.between takes.retired takes.retires.file (its_pass w') takes.retires.retires)
  | inr (inl none) ↦ added_none (its_opening w) (its_pass w) _ _ _ (its_pass w') none.2.1 (refl, tt)
  | inr (inr refused) ↦ same w w' refused.0
]

-- a pass alone that left the slot as it was
alone_none : (k : Start) (p : LastingPass) (key : Key) (why : KeyFault) (freed released : Option Identity) (p' : LastingPass) → TakesAlone k p key (Err why) freed released p'
    → AddsNone (view_of p) (view_of p')
alone_none k p key why freed released p' (inl looked) = key_none k (view_of p) key (Err why) freed released (view_of p') looked
alone_none k p key why freed released p' (inr left) = held_none k (view_of p) key left.hold freed released (view_of p') left.holder

one_removes : (w w' : TableWorker) (key : Key) (answer : ℤ) (out : CoreOutcome) → RemovesByOne w key answer out w' → AddsNone (its_pass w) (its_pass w')
one_removes w w' key answer out it = search (rules, both_none, its_pass, looked_none, added_none, retired_none)

remove_none : (w w' : TableWorker) (key : Key) (answer : ℤ) (out : CoreOutcome) → RemovesAs w key answer out w' → AddsNone (its_pass w) (its_pass w')
remove_none w w' key answer out it = elim it.removed [
  | inl one ↦ one_removes w w' key answer out one
  | inr (inl left) ↦ alone_none (its_start w) w.pass key left.why left.takes.freed left.takes.released w'.pass left.takes.takes
  | inr (inr refused) ↦ same w w' refused.0
]

-- a call installed one file, with this tag and number
pub record Makes (w w' : TableWorker) (tag number : ℕ) : Type 0 where
  pub new : File
  pub one : AddsOne (its_pass w) (its_pass w') new
  pub identity : new.identity ≡ file_with tag number

pub renewed : (w w' : TableWorker) (key : Key) (tag : ℕ) (answer : ℤ) (out : CoreOutcome) → ReplacesByOne w key tag answer out w' → Makes w w' tag w.numbers.next
renewed w w' key tag answer out it = search (rules, none_then, its_pass, looked_none, one_then, added_after, retired_none)

pub inserted : (w w' : TableWorker) (tag slot : ℕ) → TriedSo (its_opening w) (its_pass w) (file_with tag w.numbers.next) (At slot) (its_pass w') → Makes w w' tag w.numbers.next
inserted w w' tag slot it = search (rules, added_one, its_pass)

placed_one : (o : Opening) (v : PassView) (slot : ℕ) (new : File) (result : Option Retired) (u : PassView) → PlacedFile o v slot new result u → AddsOne v u new
placed_one o v slot new None u it = added_one o v (Put slot new None) _ _ u new it refl
placed_one o v slot new (Some retired) u it = added_one o v (Put slot new (Some it.0)) _ _ u new it.2 refl

any_none : (o : Opening) (v : PassView) (retired : Option Retired) (answer : ℤ) (tag : ℕ) (u : PassView) → RetiresAny o v retired answer tag u → AddsNone v u
any_none o v None answer tag u it = same_none v u it.2
any_none o v (Some retired) answer tag u it = retired_none o v retired it.file u it.retires

pub replaced_at : (w w' : TableWorker) (slot tag : ℕ) (answer : ℤ) (out : CoreOutcome) → PutsAt w slot tag answer out w' → Makes w w' tag w.numbers.next
replaced_at w w' slot tag answer out put = search (rules, one_then, its_pass, placed_one, any_none)

pub put_in_empty : (w w' : TableWorker) (slot tag : ℕ) → HasPutEmpty (its_start w) w.pass slot (file_with tag w.numbers.kept) empty.Installed w'.pass → Makes w w' tag w.numbers.kept
put_in_empty w w' slot tag it = search (rules, added_one, its_pass)

-- the files that a call of an export adds to its pass's events, and the numbers that it draws
data Changes (w w' : TableWorker) : Type 0 where
  adds_none : AddsNone (its_pass w) (its_pass w') → w'.numbers ≡ w.numbers → Changes w w'
  keeps_one : AddsNone (its_pass w) (its_pass w') → w'.numbers ≡ after_keep w.numbers → Changes w w'
  spends_one : AddsNone (its_pass w) (its_pass w') → w'.numbers ≡ without_kept w.numbers → Changes w w'
  adds_next : (tag : ℕ) → Makes w w' tag w.numbers.next → w'.numbers ≡ after_draw w.numbers → Changes w w'
  adds_kept : (tag : ℕ) → Makes w w' tag w.numbers.kept → w'.numbers ≡ without_kept w.numbers → Changes w w'

unchanged : (w w' : TableWorker) → w' ≡ w → Changes w w'
unchanged w w' is = adds_none (same w w' is) (ap (λ (u : TableWorker). u.numbers) is)

tried : (w w' : TableWorker) (tag number : ℕ) (result : TriedPut) → UsesIfTried w result number w'
    → TriedSo (its_opening w) (its_pass w) (file_with tag w.numbers.next) result (its_pass w') → Changes w w'
tried w w' tag number (At slot) uses it = adds_next tag (inserted w w' tag slot it) uses.1
tried w w' tag number (Full file) uses it = adds_none (added_none (its_opening w) (its_pass w) _ _ _ (its_pass w') it.1 (refl, tt)) uses.1
tried w w' tag number (Again file) uses it = adds_none (added_none (its_opening w) (its_pass w) _ _ _ (its_pass w') it.1 tt) uses.1

searched : (w w' : TableWorker) (number : ℕ) (result : FoundSlot) → KeepsIfFound w result number w' → HasSearched (its_start w) w.pass result w'.pass → Changes w w'
searched w w' number (found.At slot) keeps' it = keeps_one (added_none (opening_of (its_start w)) (its_pass w) _ _ _ (its_pass w') it.1.adds tt) keeps'.1
searched w w' number found.Full keeps' it = adds_none (added_none (opening_of (its_start w)) (its_pass w) _ _ _ (its_pass w') it (refl, tt)) keeps'.1
searched w w' number found.Again keeps' it = adds_none (added_none (opening_of (its_start w)) (its_pass w) _ _ _ (its_pass w') it.0 tt) keeps'.1

filled : (w w' : TableWorker) (slot tag : ℕ) (result : PutEmpty) → w'.numbers ≡ without_kept w.numbers
    → HasPutEmpty (its_start w) w.pass slot (file_with tag w.numbers.kept) result w'.pass → Changes w w'
filled w w' slot tag empty.Installed spent it = adds_kept tag (put_in_empty w w' slot tag it) spent
filled w w' slot tag (empty.Stale file) spent it = spends_one (added_none (opening_of (its_start w)) (its_pass w) _ _ _ (its_pass w') it.1.adds tt) spent
filled w w' slot tag (empty.Again file) spent it = spends_one (added_none (opening_of (its_start w)) (its_pass w) _ _ _ (its_pass w') it.1.adds tt) spent

changes : (w w' : TableWorker) → IsExportCall w w' → Changes w w'
changes w w' (get_at slot answer out it) = adds_none (get_at_none w w' slot answer out it) it.numbers
changes w w' (get key answer out it) = adds_none (get_none w w' key answer out it) it.numbers
changes w w' (release answer dropped it) = adds_none (release_none w w' answer dropped it) it.numbers
changes w w' (is_current slot answer it) = adds_none (is_current_none w w' slot answer it) it.numbers
changes w w' (remove_at slot answer out it) = adds_none (remove_at_none w w' slot answer out it) it.numbers
changes w w' (remove key answer out it) = adds_none (remove_none w w' key answer out it) it.numbers
changes w w' (insert tag answer number it) = elim it.allocated [
  | inl one ↦ tried w w' tag number one.result one.uses one.tries
  | inr refused ↦ unchanged w w' refused.0
]
changes w w' (replace_at slot tag answer out it) = elim it.placed [
  | inl one ↦ adds_next tag (replaced_at w w' slot tag answer out one) one.uses.1
  | inr refused ↦ unchanged w w' refused.0
]
changes w w' (replace key tag answer out it) = elim it.placed [
  | inl one ↦ adds_next tag (renewed w w' key tag answer out one) one.uses.1
  | inr (inl kept) ↦ adds_none (alone_none (its_start w) w.pass key kept.why kept.puts.freed kept.puts.released w'.pass kept.puts.puts.1) kept.draws
  | inr (inr refused) ↦ unchanged w w' refused.0
]
changes w w' (find answer number it) = elim it.found [
  | inl one ↦ searched w w' number one.result one.keeps one.searched
  | inr refused ↦ unchanged w w' refused.0
]
changes w w' (put_empty slot tag answer it) = elim it.placed [
  | inl one ↦ filled w w' slot tag one.result it.numbers one.tries
  | inr refused ↦ spends_one (same_none (its_pass w) (its_pass w') (ap its_pass refused.0)) it.numbers
]

grows_so : (w w' : TableWorker) → Changes w w' → Grows (its_pass w) (its_pass w')
grows_so w w' h3 = grind arith

keeps_so : (w w' : TableWorker) → Changes w w' → KeepsItsNumbers w w'
keeps_so w w' (adds_none none numbers) installing place some low d = stays installing place some low w w' d none numbers
keeps_so w w' (keeps_one none numbers) installing place some low d = keeps installing place some low w w' d none numbers
keeps_so w w' (spends_one none numbers) installing place some low d = spends installing place some low w w' d none numbers
keeps_so w w' (adds_next tag made numbers) installing place some low d =
    installs installing place some low w w' d made.new made.one (number_of_new made.new tag w.numbers.next made.identity) numbers
keeps_so w w' (adds_kept tag made numbers) installing place some low d =
    installs_kept installing place some low w w' d made.new made.one (number_of_new made.new tag w.numbers.kept made.identity) numbers

-- an export's events are some more of its pass
pub call_grows : (w w' : TableWorker) → IsExportCall w w' → Grows (its_pass w) (its_pass w')
call_grows w w' call = grows_so w w' (changes w w' call)

pub exports_keep : ExportsKeepNumbers
exports_keep w w' call = keeps_so w w' (changes w w' call)
