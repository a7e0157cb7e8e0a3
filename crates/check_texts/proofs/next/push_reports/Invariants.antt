use Rattle.check_texts.proofs.{all_asked, SubmitsAll, Grows, MayLeadTo, Stage, stage_of, stage_reported, stages_of, map, take, Contains}
use Rattle.check_texts.proofs.next.push_reports.Given as goal

abbrev pub invariant-loop-possible : goal.invariant-loop-possible
invariant-loop-possible l = record {
  grows : Grows (MayLeadTo l.setting.keeps (stage_of l.setting.catalogue.now l.from) (SubmitsAll (all_asked l.requests)))
      (stages_of l.setting.catalogue.now l.fn.rings.items) (stages_of l.setting.catalogue.now l.rings.items);
  there : (s : Stage)
      → Contains (map (stage_reported l.setting.keeps (stage_of l.setting.catalogue.now l.from)) (take l.possible-index l.possible-items)) s
      → Contains (stages_of l.setting.catalogue.now l.rings.items) s;
}
