use Rattle.std.proofs.Common.{rules}
use Rattle.sources.specs.Reach.{pose}
use Rattle.sources.proofs.Shown.{shows_pose}
use Rattle.sources.proofs.pages.Page.get.Goals as goal

pub returns : goal.returns
returns c ps e = shows_pose c.args.self.now ps c.args.number (pose 0 0) c.requires e _ (λ p h. search rules) c.then.result c.then.ensures.variant c.then.ensures.some
