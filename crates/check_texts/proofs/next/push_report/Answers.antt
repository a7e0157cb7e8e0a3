use Rattle.check_texts.proofs.next.push_report.Goals as goal

pub returns : goal.returns
returns c =
    let cat = c.args.setting.now.catalogue.now in
    record {
      grows = rw (c.in_ok-ring.ensures.ring cat, c.in_ok-printed.ensures, c.as_str.ensures.value, c.as_str-2.ensures.value, c.in_ok-line.ensures)
          at (c.in_ok-push_new.ensures.grows cat);
      there = rw (c.in_ok-ring.ensures.ring cat, c.in_ok-printed.ensures, c.as_str.ensures.value, c.as_str-2.ensures.value, c.in_ok-line.ensures)
          at (c.in_ok-push_new.ensures.there cat);
    }
