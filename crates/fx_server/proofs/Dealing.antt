-- The workers of a new table: each has a pass of it, in their order, and has installed nothing.
use Rattle.fx_server.proofs.Words.{◌≡◌, ℕ, ◌+◌, arith, List, [], ◌∷◌, ◌++◌, All, ap, refl, sym, ◌∙◌, length, map, reverse, map-append, length-map}
use Rattle.fx_server.proofs.Words.{map-range_with_len_more, All-cons, All-head, All-nil, All-push, All-tail, All-weaker, Box, vacant, lasting_opening}
use Rattle.fx_server.proofs.Words.{first_passes, opening_of_table, view_of, LastingPass, AreDealt, range_with_len, numbers_of_all, AreOpened}
use Rattle.fx_server.proofs.Words.{workers_in, its_pass, its_table, TableWorker, common_steps, Contents, state_of, inl, ◌<◌, subst, slice_index_or}
use Rattle.fx_server.proofs.Words.{get_or-map, All-map, All-same, get_or-map-range_with_len, length-map-range_with_len, IsInstalled, Event, File}
use Rattle.fx_server.proofs.Words.{PassView, new_pass, as_first, first_numbers, without_kept, OpenedWorkersDrawTheirNumbers, FileNumbers}
use Rattle.fx_server.specs.declared.shared.Shared.{Shared}

workers_push : (xs : List (Box TableWorker)) (b : Box TableWorker) → workers_in (xs ++ b ∷ []) ≡ workers_in xs ++ b.value ∷ []
workers_push xs b = map-append (λ (it : Box TableWorker). it.value) xs (b ∷ [])

-- one worker more has what a worker at its place, from a, has
pub in_places : {A : Type 0} (its : TableWorker → A) (at : ℕ → A) (a : ℕ) (xs ys : List (Box TableWorker)) (b : Box TableWorker) → ys ≡ xs ++ b ∷ []
    → its b.value ≡ at (a + length xs) → map its (workers_in xs) ≡ map at (range_with_len a (length (workers_in xs)))
    → map its (workers_in ys) ≡ map at (range_with_len a (length (workers_in ys)))
in_places its at a xs ys b e one was =
    let value : Box TableWorker → TableWorker = λ it. it.value in grind (arith, common_steps, workers_push, map-range_with_len_more)

abbrev pub passes_of : List TableWorker → List LastingPass
passes_of list = map (λ (w : TableWorker). w.pass) list

pub all_pushed : (P : TableWorker → Type 0) (xs ys : List (Box TableWorker)) (b : Box TableWorker) → ys ≡ xs ++ b ∷ [] → All P (workers_in xs) → P b.value → All P (workers_in ys)
all_pushed P xs ys b e all one = grind (arith, workers_push xs b, All-push P (workers_in xs) b.value all one)

-- one pass more has a worker, and one fewer is left
pub dealt_one : (xs ys : List (Box TableWorker)) (b : Box TableWorker) (left less : List LastingPass) (p : LastingPass) (all : List LastingPass)
    → ys ≡ xs ++ b ∷ [] → left ≡ less ++ p ∷ [] → b.value.pass ≡ p → passes_of (workers_in xs) ++ reverse left ≡ all → passes_of (workers_in ys) ++ reverse less ≡ all
dealt_one xs ys b left less p all pushed popped same was =
    ap (λ (it : List (Box TableWorker)). passes_of (workers_in it) ++ reverse less) pushed
    ∙ grind (arith, common_steps, workers_push xs b)

views : (list : List TableWorker) → map its_pass list ≡ map view_of (passes_of list)
views [] = refl
views (w ∷ ws) = ap (λ it. its_pass w ∷ it) (views ws)

pub opened_of : (shared : Shared) (contents : Contents) (passes : List LastingPass) (list : List TableWorker) (slots workers installing : ℕ)
    → AreDealt shared passes installing list → opening_of_table shared.table ≡ lasting_opening contents workers
    → state_of contents ≡ vacant slots → length passes ≡ workers → map view_of passes ≡ first_passes installing workers
    → AreOpened slots workers installing list × (length list ≡ workers)
opened_of shared contents passes list slots workers installing d opening empty count new =
    let of_list : length list ≡ workers = sym (length-map list (λ (w : TableWorker). w.pass)) ∙ (ap length d.order ∙ count) in (
      record {
        table = shared.table;
        contents = contents;
        opening = opening;
        empty = empty;
        shares = All-weaker (λ (w : TableWorker). w.shared ≡ shared) (λ (w : TableWorker). its_table w ≡ shared.table) (λ w same. ap (λ (it : Shared). it.table) same) list d.shares;
        idle = d.idle;
        passes = views list ∙ ap (map view_of) d.order ∙ new;
        numbers = d.numbers ∙ ap (numbers_of_all installing) of_list;
      },
      of_list,
    )

-- what holds of each image of a list
pub unmapped : {A B : Type 0} (P : B → Type 0) (its : A → B) (list : List A) → All P (map its list) → All (λ (a : A). P (its a)) list
unmapped P its [] all = All-nil (λ a. P (its a))
unmapped P its (a ∷ list) all = All-cons (λ b. P (its b)) a list (All-head P (its a) (map its list) all) (unmapped P its list (All-tail P (its a) (map its list) all))

-- the pass has made no event
abbrev IsNew : PassView → Type 0
IsNew v = v.own ≡ []

all_new : (installing first n : ℕ) → All IsNew (map (as_first installing) (map new_pass (range_with_len first n)))
all_new installing first n = All-map IsNew (as_first installing) _ (All-map (λ v. IsNew (as_first installing v)) new_pass (range_with_len first n) (λ k d low. refl))

-- what the worker at each place has
at_place : {A : Type 0} (its : TableWorker → A) (at : ℕ → A) (first n : ℕ) (list : List TableWorker) (k : ℕ) (other : TableWorker) → map its list ≡ map at (range_with_len first n) → k < length list
    → its (slice_index_or list k other) ≡ at (first + k)
at_place {A} its at first n list k other is low =
    let inside : k < n = omega (arith, length-map list its, ap length is, length-map-range_with_len at first n) in
    sym (get_or-map its list k other (its other) low) ∙ (ap (λ (l : List A). slice_index_or l k (its other)) is ∙ get_or-map-range_with_len at first n k (first + k) (its other) inside refl)

pub opened_draw : OpenedWorkersDrawTheirNumbers
opened_draw slots workers installing list opened place other low =
    let all = All-same IsNew (map its_pass list) _ opened.passes (all_new installing 1 workers) in
    let w = slice_index_or list place other in
    let own : (its_pass w).own ≡ [] = unmapped IsNew its_pass list all place other low in
    let numbers : w.numbers ≡ first_numbers installing (1 + place) = at_place (λ (u : TableWorker). u.numbers) (first_numbers installing) 1 workers list place other opened.numbers low in
    let none : (f : File) → IsInstalled (its_pass w).own f → ⊥ = λ f it. subst (λ (events : List Event). IsInstalled events f) own it in
    record {
      draws = 0;
      numbers = ap without_kept numbers;
      files = record { drawn = λ f it. absurd (none f it); apart = λ f g f_in g_in. absurd (none f f_in) };
      kept = inl (ap (λ (n : FileNumbers). n.kept) numbers);
      unused = λ f it. absurd (none f it);
    }

-- the pass of a worker at a place has the number of the place, from 1
pub opened_pass : (slots workers installing : ℕ) (list : List TableWorker) → AreOpened slots workers installing list → (place : ℕ) (other : TableWorker) → place < length list
    → (its_pass (slice_index_or list place other)).number ≡ 1 + place
opened_pass slots workers installing list opened place other low =
    let first : List PassView = map new_pass (range_with_len 1 workers) in
    let n = length-map-range_with_len new_pass 1 workers in
    let same : length (map its_pass list) ≡ length (map (as_first installing) first) = ap length opened.passes in
    let here : place < workers = omega (arith, length-map list its_pass, same, length-map first (as_first installing), n, low) in
    let inside : place < length first = omega (arith, n, here) in
    ap (λ (v : PassView). v.number) (sym (get_or-map its_pass list place other (its_pass other) low)
    ∙ (ap (λ (l : List PassView). slice_index_or l place (its_pass other)) opened.passes
    ∙ (get_or-map (as_first installing) first place (new_pass 0) (its_pass other) inside
    ∙ ap (as_first installing) (get_or-map-range_with_len new_pass 1 workers place (1 + place) (new_pass 0) here refl))))
