use Rattle.fx_ring.proofs.Words.{◌+◌, List, length, sym, ap, subst, ◌∙◌, arith, PassView, IsIdle, all_asked, runs_of, Completed, all_completed, ◌≡◌}
use Rattle.fx_ring.proofs.Words.{HasRoomFor, ring_with, IsOneHistory, Reported, Worker, Completion, CloseListView, Closed, IsPermutation, ClosesTable}
use Rattle.fx_ring.proofs.Words.{accepted-length, PASS_LOOKS, true, All, All-map, HasWorked, map-map, size_of, state_of_worker}
use Rattle.fx_ring.proofs.Crews.{IsNew, all_gathered, all_new, numbers_are, as_many_passes, new_has_worked, new_has_room, runs_have_all, states}
use Rattle.fx_ring.proofs.Crews.{runs_weigh_all, scattered_views, completions_joined, files_joined, as_many_completions, as_many_files}
use Rattle.fx_ring.proofs.WorkersTogether.{HavePlayed, number_of, one_of_each, closes_weigh, one_history}
use Rattle.fx_ring.proofs.CompletionPlaces.{as_many, runs_within}
use Rattle.fx_ring.proofs.submission.play_open.Given.{Over}
use Rattle.fx_ring.proofs.submission.play_open.Goals.{After-close-left}
use Rattle.fx_ring.proofs.submission.play_open.Goals as goal

pub gather-requires-clause-count : goal.gather-requires-clause-count
gather-requires-clause-count g c = c.requires.room.count ∙ sym (as_many_passes g.T.FileTable.view c.args.passes.items _ c.requires.new)

pub gather-requires-clause-room : goal.gather-requires-clause-room
gather-requires-clause-room g c = omega (arith, as_many_passes g.T.FileTable.view c.args.passes.items _ c.requires.new, c.requires.room.crew)

pub work_crew-requires-clause-ready : goal.work_crew-requires-clause-ready
work_crew-requires-clause-ready g c κs within =
    let V : g.row.T-Pass.Denot → PassView = λ p. g.T.FileTable.view p in
    let ready = all_gathered (λ p. g.T.FileTable.fits c.args.table p × IsIdle (V p)) _ _ _ c.gather.ensures.passes c.requires.ready in
    let few = accepted-length (all_asked c.args.submission.now.requests.now) c.args.submission.now.cut.accepted in
    let new = all_gathered (λ p. IsNew PASS_LOOKS (V p)) _ _ _ c.gather.ensures.passes (all_new V c.args.passes.items _ c.requires.new) in
    let room = all_gathered (HasRoomFor (all_asked c.args.submission.now.requests.now)) _ _ _ c.gather.ensures.outcomes c.requires.room.outcomes in
    λ k d l. record {
      between = record { fits = (ready k d l).0; idle = (ready k d l).1; worked = new_has_worked (new k d l) (room k d l) };
      room = new_has_room (new k d l) (room k d l) (omega arith);
    }

pub close-left-requires-clause-ready : goal.close-left-requires-clause-ready
close-left-requires-clause-ready g c =
    let Ready : g.row.T-Pass.Denot → Type 0 = λ p. g.T.FileTable.fits c.args.table p × IsIdle (g.T.FileTable.view p) in
    subst (All Ready) (sym c.scatter.ensures.passes)
    (All-map Ready (λ w. w.pass) _ (λ k d l. let is = (c.work_crew.ensures.done k d l).between in (is.fits, is.idle)))

-- the crew has played, and its passes are back
module _ (g : Over) (c : After-close-left g) where
  abbrev V : g.row.T-Pass.Denot → PassView
  V p = g.T.FileTable.view p

  abbrev ws : List (Worker g.row.T-Pass.Denot)
  ws = c.work_crew.new.crew.items

  played : HavePlayed c.args.submission.now.catalogue.now (c.args.submission.now.earlier + 1) (runs_of (all_asked c.args.submission.now.requests.now))
      (g.T.FileTable.opening c.args.table) (states V ws) c.close-left.result
  played =
      let s = c.args.submission.now in
      let o = g.T.FileTable.opening c.args.table in
      let runs = runs_of (all_asked s.requests.now) in
      record {
        worked = All-map (HasWorked s.catalogue.now (size_of o) (s.earlier + 1) runs) (state_of_worker V) ws
            (λ k d l. (c.work_crew.ensures.done k d l).between.worked);
        told = All-map (λ w. w.pass.no_chains_left ≡ true) (state_of_worker V) ws (λ k d l. (c.work_crew.ensures.done k d l).all_drawn);
        chains = c.requires.chains ∙ sym (as_many s.cut);
        ends = (g.met.T.FileTable g.world.𝓛 g.world.𝓜 g.world.𝓡 ((λ s x. x), (λ x. x), (λ x. x), λ x. x)).ends c.args.table;
        short = runs_within s.cut;
        numbers = map-map number_of (state_of_worker V) ws ∙ (c.work_crew.ensures.numbers
            ∙ numbers_are V c.args.passes.items o.passes c.requires.new c.gather.new.crew.items c.gather.ensures.passes);
        closing = subst (λ (l : List PassView). ClosesTable o l c.close-left.result) (scattered_views V ws c.scatter.ensures.passes)
            c.close-left.ensures;
      }

pub joined-all-requires-clause-completions : goal.joined-all-requires-clause-completions
joined-all-requires-clause-completions g c =
    let each = one_of_each (played g c) in
    let sum = as_many_completions (V g c) (ws g c) c.scatter.ensures.outcomes in
    let all = runs_have_all (all_asked c.args.submission.now.requests.now) in
    let none = ap (λ (l : List Completion). length l) c.requires.room.all.no_completions in
    omega (arith, each, sum, all, none, c.requires.room.all.room, c.args.room.all.completions.ok.0)

pub joined-all-requires-clause-closes : goal.joined-all-requires-clause-closes
joined-all-requires-clause-closes g c =
    let sum = as_many_files (V g c) (ws g c) c.scatter.ensures.outcomes in
    let room = ap (λ (l : CloseListView). l.room) c.requires.room.all.closes in
    omega (arith, closes_weigh (played g c), sum, runs_weigh_all (all_asked c.args.submission.now.requests.now), room)

pub returns-clause-played : goal.returns-clause-played
returns-clause-played g c registrations =
    let a = (goal.at.returns-clause-played g c).After-close-left in
    let s = c.args.submission.now in
    let asked = all_asked s.requests.now in
    subst (λ (r : Reported). IsOneHistory (ring_with s.catalogue.now (g.T.FileTable.opening c.args.table).contents s.earlier registrations) asked r
    (ring_with s.catalogue.now c.close-left.result (s.earlier + 1) registrations)) (sym c.report.ensures)
    (one_history registrations (played g a)
    (subst (λ (l : List Completed). IsPermutation l (all_completed c.sort.new.self.completions.items))
    (ap all_completed c.joined-all.ensures.completions ∙ completions_joined (V g a) (ws g a) c.scatter.ensures.outcomes) c.sort.ensures.completions)
    c.sort.ensures.in_order
    (subst (λ (l : List Closed). IsPermutation l c.sort.new.self.closes.files)
    (c.joined-all.ensures.closes ∙ files_joined (V g a) (ws g a) c.scatter.ensures.outcomes) c.sort.ensures.closes)
    c.sort.ensures.in_order_of_mark)
