use Rattle.sources.proofs.Shown.{shows_count}
use Rattle.sources.proofs.pages.Page.count.Goals as goal

pub returns : goal.returns
returns c ps e = shows_count c.args.self.now ps e
