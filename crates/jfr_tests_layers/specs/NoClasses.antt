-- The metadata of a chunk without classes.
use Rattle.std.specs.Prelude.{[], ◌∷◌}
use Rattle.jfr_meta.specs.Trees.{Tree, tree}

-- Its tree: a root with one element.
abbrev pub two_elements : Tree
two_elements = tree 0 0 [] (tree 0 1 [] [] ∷ [])
