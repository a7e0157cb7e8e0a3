-- The runs of a list: how they part it, and how a submission is cut.
use Rattle.fx_chain.proofs.Words.{rules, ◌≡◌, ◌<◌, true, false, not, if◌then◌else◌, List, [], ◌∷◌, ◌++◌, length, refl, sym, ap, ◌∙◌, All, arith, inl}
use Rattle.fx_chain.proofs.Words.{inr, cases_Bool, not-true, flat_map, append-nil, list_all-from_AllPass, All-nil, All-cons, All-head, All-tail, ◌⊎◌}
use Rattle.fx_chain.proofs.Words.{Asked, is_link, but_last, is_over, AreRuns, AreTheOnlyRuns, in_front, runs_of, open_run, ◌&&◌, subst, ◌+◌, ◌==◌, ℕ}
use Rattle.fx_chain.proofs.Words.{list_all, and_right, ne_eqb, All-push, IsInRun, AllPass-from_list_all, ◌≤◌, drop, chains_from, chains_of, all_asked}
use Rattle.fx_chain.proofs.Words.{Chain, Request, append_assoc, length-append}
use Rattle.fx_chain.proofs.ChainGoesOn.{asked_none}

-- each request of a run but its last one links
abbrev pub AllLink : List Asked → Type 0
AllLink requests = All (λ request. is_link request.flags ≡ true) requests

-- a run: all but the last request link with the next one
abbrev pub IsLinked : List Asked → Type 0
IsLinked run = AllLink (but_last run)

abbrev pub HasMembers : List Asked → Type 0
HasMembers run = 0 < length run

abbrev pub IsOver : List Asked → Type 0
IsOver run = is_over run ≡ true

abbrev pub Links : Asked → Type 0
Links request = is_link request.flags ≡ true

pub runs_one : (r : Asked) → runs_of (r ∷ []) ≡ (r ∷ []) ∷ []
runs_one r = elim (is_link r.flags) as (λ b. (if b then (r ∷ []) ∷ [] else (r ∷ []) ∷ []) ≡ (r ∷ []) ∷ []) [ true ↦ refl | false ↦ refl ]

-- a linking request before runs
linked_step : (r : Asked) (rs : List Asked) (runs : List (List Asked)) → is_link r.flags ≡ true → AreRuns rs runs → AreRuns (r ∷ rs) (in_front r runs)
linked_step r rs [] links are = grind arith
linked_step r rs ([] ∷ runs) links are = let no : 0 < 0 = All-head HasMembers [] runs are.not_empty in absurd (omega arith)
linked_step r rs ((x ∷ xs) ∷ []) links are = grind (arith, All-cons Links r (but_last (x ∷ xs)) links (All-head IsLinked (x ∷ xs) [] are.linked))
linked_step r rs ((x ∷ xs) ∷ run ∷ runs) links are = record {
  whole = ap (λ ys. r ∷ ys) are.whole;
  not_empty = All-cons HasMembers (r ∷ x ∷ xs) (run ∷ runs) (omega arith) (All-tail HasMembers (x ∷ xs) (run ∷ runs) are.not_empty);
  linked = All-cons IsLinked (r ∷ x ∷ xs) (run ∷ runs)
      (All-cons Links r (but_last (x ∷ xs)) links (All-head IsLinked (x ∷ xs) (run ∷ runs) are.linked))
      (All-tail IsLinked (x ∷ xs) (run ∷ runs) are.linked);
  over = search (rules, All-cons, All-head, All-tail);
}

-- a run of one request before runs
ended_step : (r : Asked) (rs : List Asked) (runs : List (List Asked)) → is_link r.flags ≡ false → AreRuns rs runs → AreRuns (r ∷ rs) ((r ∷ []) ∷ runs)
ended_step r rs runs ends are = grind arith

-- the runs of a list are runs
pub are_runs : (requests : List Asked) → AreRuns requests (runs_of requests)
are_runs [] = record { whole = refl; not_empty = All-nil _; linked = All-nil _; over = All-nil _ }
are_runs (r ∷ rs) = elim (cases_Bool (is_link r.flags)) [
  | inl links ↦ rw links (linked_step r rs (runs_of rs) links (are_runs rs))
  | inr ends ↦ rw ends (ended_step r rs (runs_of rs) ends (are_runs rs))
]

-- a linked list is one run
pub one_run : (run : List Asked) → 0 < length run → IsLinked run → runs_of run ≡ run ∷ []
one_run [] some linked = absurd (omega arith)
one_run (x ∷ []) some linked = runs_one x
one_run (x ∷ y ∷ run) some linked = grind (arith, one_run (y ∷ run) (omega arith) (All-tail Links x (but_last (y ∷ run)) linked), All-head, All-tail)

-- a run that is over is the first run
pub first_run : (run rest : List Asked) → IsLinked run → is_over run ≡ true → runs_of (run ++ rest) ≡ run ∷ runs_of rest
first_run [] rest linked over = cc
first_run (x ∷ []) rest linked over = rw (not-true (is_link x.flags) over)
first_run (x ∷ y ∷ run) rest linked over =
    rw (All-head Links x (but_last (y ∷ run)) linked, first_run (y ∷ run) rest (All-tail Links x (but_last (y ∷ run)) linked) over)

parted : (runs : List (List Asked)) → All HasMembers runs → All IsLinked runs → All IsOver (but_last runs)
    → runs_of (flat_map (λ run. run) runs) ≡ runs
parted [] some linked over = refl
parted (run ∷ []) some linked over = ap runs_of (append-nil run) ∙ one_run run (All-head HasMembers run [] some) (All-head IsLinked run [] linked)
parted (run ∷ next ∷ runs) some linked over =
    search (rules, parted (next ∷ runs) (All-tail HasMembers run (next ∷ runs) some) (All-tail IsLinked run (next ∷ runs) linked) (All-tail IsOver run (but_last (next ∷ runs)) over), first_run, All-head, All-tail)

-- there are no other runs
pub only_runs : (requests : List Asked) (runs : List (List Asked)) → AreRuns requests runs → runs ≡ runs_of requests
only_runs requests runs are = sym (parted runs are.not_empty are.linked are.over) ∙ ap runs_of are.whole

pub the_only_runs : (requests : List Asked) → AreTheOnlyRuns requests (runs_of requests)
the_only_runs requests = record { are = are_runs requests; only = only_runs requests }

pub open_run-all : (requests : List Asked) → AllLink requests → open_run requests ≡ requests
open_run-all [] link = refl
open_run-all (r ∷ rs) link = rw (list_all-from_AllPass (λ it. is_link it.flags) (r ∷ rs) link)

-- no list has no runs but the empty one
pub runs-some : (x : Asked) (xs : List Asked) → 0 < length (runs_of (x ∷ xs))
runs-some x xs = grind arith

-- A run and its last request, and the open run after runs that are over.

-- a list is all but its last element, and then that one
pub but_last-last : {X : Type 0} (x : X) (xs : List X) → (last : X) × (x ∷ xs ≡ but_last (x ∷ xs) ++ last ∷ [])
but_last-last x [] = (x, refl)
but_last-last x (y ∷ ys) = let rest = but_last-last y ys in (rest.0, ap (λ zs. x ∷ zs) rest.1)

pub but_last-push : {X : Type 0} (xs : List X) (y : X) → but_last (xs ++ y ∷ []) ≡ xs
but_last-push [] y = refl
but_last-push (x ∷ []) y = refl
but_last-push (x ∷ z ∷ zs) y = ap (λ ws. x ∷ ws) (but_last-push (z ∷ zs) y)

pub is_over-push : (xs : List Asked) (r : Asked) → is_link r.flags ≡ false → is_over (xs ++ r ∷ []) ≡ true
is_over-push [] r ends = ap not ends
is_over-push (x ∷ []) r ends = ap not ends
is_over-push (x ∷ y ∷ ys) r ends = is_over-push (y ∷ ys) r ends

pub is_over-append : (front run : List Asked) → is_over run ≡ true → is_over (front ++ run) ≡ true
is_over-append [] run over = over
is_over-append (x ∷ []) [] over = cc
is_over-append (x ∷ []) (y ∷ ys) over = over
is_over-append (x ∷ y ∷ ys) run over = is_over-append (y ∷ ys) run over

-- a run that is over has a request that doesn't link
list_all-over : (run rest : List Asked) → is_over run ≡ true → list_all (λ r. is_link r.flags) (run ++ rest) ≡ false
list_all-over [] rest over = cc
list_all-over (x ∷ []) rest over = ap (λ b. b && list_all (λ r. is_link r.flags) rest) (not-true (is_link x.flags) over)
list_all-over (x ∷ y ∷ run) rest over = and_right (is_link x.flags) _ (list_all-over (y ∷ run) rest over)

-- the open run follows each run that is over
open_run-skip : (run rest : List Asked) → is_over run ≡ true → open_run (run ++ rest) ≡ open_run rest
open_run-skip [] rest over = cc
open_run-skip (x ∷ []) rest over = rw (list_all-over (x ∷ []) rest over)
open_run-skip (x ∷ y ∷ run) rest over = rw (list_all-over (x ∷ y ∷ run) rest over) (open_run-skip (y ∷ run) rest over)

-- no run is open
abbrev pub IsClosed : List Asked → Type 0
IsClosed front = (front ≡ []) ⊎ IsOver front

pub IsClosed-append : (front run : List Asked) → IsOver run → IsClosed (front ++ run)
IsClosed-append front run over = inr (is_over-append front run over)

pub open_run-closed : (front run : List Asked) → IsClosed front → AllLink run → open_run (front ++ run) ≡ run
open_run-closed front run h3 link = grind (arith, open_run-all, open_run-skip)

-- the runs of a list whose last request doesn't link are the first runs of a longer list
in_front-append : (x : Asked) (runs more : List (List Asked)) → 0 < length runs → in_front x (runs ++ more) ≡ in_front x runs ++ more
in_front-append x runs more some = grind arith

pub runs_of-append : (front rest : List Asked) → is_over front ≡ true → runs_of (front ++ rest) ≡ runs_of front ++ runs_of rest
runs_of-append [] rest over = cc
runs_of-append (x ∷ []) rest over = rw (not-true (is_link x.flags) over)
runs_of-append (x ∷ y ∷ ys) rest over = grind (arith, cases_Bool, in_front-append, runs-some, runs_of-append (y ∷ ys) rest over)

-- a list is what is over, and then its open run
record Ends (front : List Asked) : Type 0 where
  pub closed : List Asked
  pub parts : front ≡ closed ++ open_run front
  pub is_closed : IsClosed closed
  pub linked : AllLink (open_run front)

one_more : (x : Asked) (xs closed : List Asked) → list_all (λ r. is_link r.flags) (x ∷ xs) ≡ false → xs ≡ closed ++ open_run xs → IsClosed closed
    → AllLink (open_run xs) → IsClosed (x ∷ closed)
one_more x xs closed differs parts h6 linked = grind (arith, list_all-from_AllPass, is_over-append)

ends_of : (front : List Asked) → Ends front
ends_of [] = record { closed = []; parts = refl; is_closed = inl refl; linked = All-nil Links }
ends_of (x ∷ xs) = elim (cases_Bool (list_all (λ r. is_link r.flags) (x ∷ xs))) [
  | inl all ↦
      let link = AllPass-from_list_all (λ r. is_link r.flags) (x ∷ xs) all in
      record { closed = []; parts = rw all; is_closed = inl refl; linked = rw all link }
  | inr differs ↦
      let rest = ends_of xs in
      record {
        closed = x ∷ rest.closed;
        parts = rw differs (ap (λ ys. x ∷ ys) rest.parts);
        is_closed = one_more x xs rest.closed differs rest.parts rest.is_closed rest.linked;
        linked = rw differs rest.linked;
      }
]

-- the first run of a list continues earlier requests that link
record Begins (run : List Asked) (r : Asked) (behind : List Asked) : Type 0 where
  pub rest : List Asked
  pub later : List (List Asked)
  pub parts : runs_of (run ++ r ∷ behind) ≡ (run ++ r ∷ rest) ∷ later

begins_one : (r : Asked) (runs : List (List Asked)) → (rest : List Asked) × (later : List (List Asked)) × (in_front r runs ≡ (r ∷ rest) ∷ later)
begins_one r [] = ([], [], refl)
begins_one r (run ∷ runs) = (run, runs, refl)

begins_at : (run : List Asked) (r : Asked) (behind : List Asked) → AllLink run → Begins run r behind
begins_at [] r behind linked = elim (cases_Bool (is_link r.flags)) [
  | inl links ↦ let one = begins_one r (runs_of behind) in record { rest = one.0; later = one.1; parts = rw links one.2 }
  | inr ends ↦ record { rest = []; later = runs_of behind; parts = rw ends }
]
begins_at (x ∷ run) r behind linked = grind (arith, All-tail, All-head, begins_at run r behind (All-tail Links x run linked))

runs_of-closed : (front rest : List Asked) → IsClosed front → runs_of (front ++ rest) ≡ runs_of front ++ runs_of rest
runs_of-closed front rest h3 = grind (arith, runs_of-append)

pub is_in_run : (front : List Asked) (r : Asked) (behind : List Asked) → IsInRun front r (runs_of (front ++ r ∷ behind))
is_in_run front r behind =
    let e = ends_of front in
    let b = begins_at (open_run front) r behind e.linked in
    record {
      earlier = runs_of e.closed;
      rest = b.rest;
      later = b.later;
      parts = ap (λ xs. runs_of (xs ++ r ∷ behind)) e.parts ∙ ap runs_of (append_assoc e.closed (open_run front) (r ∷ behind))
          ∙ runs_of-closed e.closed (open_run front ++ r ∷ behind) e.is_closed ∙ ap (λ runs. runs_of e.closed ++ runs) b.parts;
      begins = λ none. ap runs_of (sym (e.parts ∙ ap (λ xs. e.closed ++ xs) none ∙ append-nil e.closed));
    }

pub but_last-links : (run : List Asked) → AllLink run → IsLinked run
but_last-links [] linked = linked
but_last-links (x ∷ []) linked = All-nil Links
but_last-links (x ∷ y ∷ run) linked = grind (arith, All-cons, All-head, All-tail, but_last-links (y ∷ run) (All-tail Links x (y ∷ run) linked))

-- the open run after one more request
pub open_run-over : (front : List Asked) (r : Asked) → is_link r.flags ≡ false → open_run (front ++ r ∷ []) ≡ []
open_run-over front r ends = ap open_run (sym (append-nil (front ++ r ∷ []))) ∙ open_run-skip (front ++ r ∷ []) [] (is_over-push front r ends)

pub open_run-push : (front : List Asked) (r : Asked) → is_link r.flags ≡ true → open_run (front ++ r ∷ []) ≡ open_run front ++ r ∷ []
open_run-push front r links =
    let e = ends_of front in
    ap (λ xs. open_run (xs ++ r ∷ [])) e.parts ∙ ap open_run (append_assoc e.closed (open_run front) (r ∷ []))
    ∙ open_run-closed e.closed (open_run front ++ r ∷ []) e.is_closed (All-push Links (open_run front) r e.linked links)

-- one more request begins a run where none is open
one_run_more : (closed : List (List Asked)) (run : List Asked) → AllLink run
    → length closed + 1 ≡ if length run == 0 then length (closed ++ runs_of run) + 1 else length (closed ++ runs_of run)
one_run_more closed [] linked = ap (λ runs. length runs + 1) (sym (append-nil closed))
one_run_more closed (x ∷ xs) linked =
    let one = ap (λ runs. length (closed ++ runs)) (one_run (x ∷ xs) (omega arith) (but_last-links (x ∷ xs) linked)) in
    let count = length-append closed ((x ∷ xs) ∷ []) in
    let some = ne_eqb (length (x ∷ xs)) 0 (λ none. absurd (omega arith)) in
    rw some (omega arith)

pub runs-push : (front : List Asked) (r : Asked)
    → length (runs_of (front ++ r ∷ [])) ≡ if length (open_run front) == 0 then length (runs_of front) + 1 else length (runs_of front)
runs-push front r =
    let e = ends_of front in
    let last = open_run front ++ r ∷ [] in
    let some : HasMembers last = let count = length-append (open_run front) (r ∷ []) in omega arith in
    let linked : IsLinked last = subst AllLink (sym (but_last-push (open_run front) r)) e.linked in
    let longer : runs_of (front ++ r ∷ []) ≡ runs_of e.closed ++ last ∷ [] =
    ap (λ xs. runs_of (xs ++ r ∷ [])) e.parts ∙ ap runs_of (append_assoc e.closed (open_run front) (r ∷ []))
    ∙ runs_of-closed e.closed last e.is_closed ∙ ap (λ runs. runs_of e.closed ++ runs) (one_run last some linked) in
    let same : runs_of front ≡ runs_of e.closed ++ runs_of (open_run front) = grind (arith, runs_of-closed) in
    ap length longer ∙ length-append (runs_of e.closed) (last ∷ []) ∙ one_run_more (runs_of e.closed) (open_run front) e.linked
    ∙ ap (λ runs. if length (open_run front) == 0 then length runs + 1 else length runs) (sym same)

-- A submission is cut from its first run on.

-- the chains that were made, and those of the requests that are left, are the chains of the
-- submission
abbrev pub IsCut : List Request → List Chain → ℕ → Type 0
IsCut requests made first = made ++ chains_from first (runs_of (all_asked (drop first requests))) ≡ chains_of (runs_of (all_asked requests))

-- at the end all chains were made
pub cut_all : (requests : List Request) (made : List Chain) (first : ℕ) → length requests ≤ first → IsCut requests made first
    → made ≡ chains_of (runs_of (all_asked requests))
cut_all requests made first end so = rw (asked_none requests first end, append-nil) at so
