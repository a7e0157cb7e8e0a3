use Rattle.fx_order.proofs.OneRing.{each_report_leads_to_one_ring}
use Rattle.fx_order.proofs.laws.each_report_leads_to_one_ring.Goals as goal

pub returns : goal.returns
returns c = each_report_leads_to_one_ring
