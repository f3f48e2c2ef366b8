use Rattle.warm_replica.proofs.mail_loops.listen_alone.Goals as goal

pub returns : goal.returns
returns g c =
    let heard = c.mail_loop-report.ensures.heard in
    record {
      items = heard.0;
      bound = heard.1.bound;
      missing = heard.1.missing;
      heard = heard.2;
      table = c.mail_loop-report.ensures.table;
      buffer = c.mail_loop-report.ensures.buffer;
    }
