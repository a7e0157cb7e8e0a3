use Rattle.fx_plain.proofs.Words.{sym, arith, node_after_removal}
use Rattle.fx_plain.proofs.Emptying.{changed_over}
use Rattle.fx_plain.proofs.node_list.NodeList.leave.Goals as goal

pub returns : goal.returns
returns c =
    rw (c.put_in.ensures.after, c.put_in-node.ensures.after, c.node_after_removal.ensures, c.put_in-node.ensures.before, sym c.self.view_is)
    (changed_over node_after_removal c.self.inside.written.items c.args.number (omega arith) (rw (sym c.self.view_is) at c.requires))
