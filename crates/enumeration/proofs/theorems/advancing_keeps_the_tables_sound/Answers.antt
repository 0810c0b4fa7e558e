use Rattle.enumeration.proofs.Advancing.{advances}
use Rattle.enumeration.proofs.theorems.advancing_keeps_the_tables_sound.Goals as goal

pub returns : goal.returns
returns g c = advances g.C.Cost.rules g.met.C.Cost.lawful
