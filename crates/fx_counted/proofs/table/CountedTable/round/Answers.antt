use Rattle.fx_counted.proofs.{rules, ◌≡◌, ◌≢◌, refl, sym, ◌∙◌, arith, full_word_of, Same, StillPlaces, full_of, begins_keep, answers_keep}
use Rattle.fx_counted.proofs.Showing.{one_still, still_then, still_placing, allocated_then, allocated_told, answered_full, answered_not}
use Rattle.fx_counted.proofs.table.CountedTable.round.Goals.{In-None}
use Rattle.fx_counted.proofs.table.CountedTable.round.Goals as goal

pub fetch_add-requires : goal.fetch_add-requires
fetch_add-requires c = (
  c.requires.searching.table,
  omega (arith, c.args.self.now.words),
  rw c.begin_amount.ensures (begins_keep _ _ _ _ c.args.seat.now.me _ c.requires.searching.placing.at.pass c.requires.searching.change refl),
)

-- the pass is in a change, and has found no slot free
still_searching : (c : In-None) → StillPlaces c.args.number Same c.args.seat.now.me c.scan.new.seat.me
still_searching c = let began = c.fetch_add.ensures.2 in
    still_then (one_still c.requires.searching.placing.work began.stepped began.carried) (c.scan.ensures.none c.in-None.is)

pub returns-in-Some-clause-ends : goal.returns-in-Some-clause-ends
returns-in-Some-clause-ends c =
    let began = c.fetch_add.ensures.2 in
    let more = allocated_then (one_still c.requires.searching.placing.work began.stepped began.carried) c.in-Some.ensures.found in
    (omega (arith, c.in-Some.ensures.slot), allocated_told more c.end.ensures.goes c.end.ensures.places)

pub fetch_sub-word-requires : goal.fetch_sub-word-requires
fetch_sub-word-requires c =
    let all = still_searching (goal.at.fetch_sub-word-requires c).In-None in (
      c.scan.ensures.table ∙ (c.fetch_add.ensures.0 ∙ c.requires.searching.table),
      omega (arith, c.args.self.now.words),
      rw c.begin_amount-in-None.ensures
          (answers_keep _ _ _ _ c.scan.new.seat.me _ (still_placing c.requires.searching.placing all).at.pass all.0.1.change refl),
    )

pub returns-then-says_full-clause-ends : goal.returns-then-says_full-clause-ends
returns-then-says_full-clause-ends c =
    let t = c.args.self.now in let all = still_searching (goal.at.returns-then-says_full-clause-ends c).In-None in
    let told : c.fetch_sub-word.result ≡ full_word_of t.range_len = search rules in let answer = c.fetch_sub-word.ensures.2 in
    answered_full all (answer.full (told ∙ full_of t (all.0.1.start ∙ c.requires.searching.placing.at.pass.0))) answer.carried

pub returns-else-says_full-clause-ends : goal.returns-else-says_full-clause-ends
returns-else-says_full-clause-ends c =
    let t = c.args.self.now in let all = still_searching (goal.at.returns-else-says_full-clause-ends c).In-None in
    let told : c.fetch_sub-word.result ≢ full_word_of t.range_len = search rules in
    let full = full_of t (all.0.1.start ∙ c.requires.searching.placing.at.pass.0) in let answer = c.fetch_sub-word.ensures.2 in
    answered_not all (answer.not_full (λ e. told (e ∙ sym full))) answer.carried
