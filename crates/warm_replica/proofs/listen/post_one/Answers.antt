use Rattle.warm_replica.proofs.MailLemmas.{posts_lost}
use Rattle.warm_replica.proofs.listen.post_one.Goals as goal

pub returns-in_default-clause-posted : goal.returns-in_default-clause-posted
returns-in_default-clause-posted g c = posts_lost g.P.Post.keeps (c.args.to, c.args.message.now) (g.P.Post.given c.args.post.now)
