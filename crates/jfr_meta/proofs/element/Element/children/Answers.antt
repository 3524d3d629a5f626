use Rattle.std.proofs.Common.{sym}
use Rattle.jfr_meta.specs.Trees.{list_of-trees_of}
use Rattle.jfr_meta.proofs.element.Element.children.Goals as goal

pub returns : goal.returns
returns c = rw (← c.self.view_is) (sym (list_of-trees_of c.self.inside.children))
