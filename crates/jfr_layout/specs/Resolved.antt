-- Tables beside a list of classes, so that no look-up has to search the list.
use Rattle.std.specs.Prelude.{◌≡◌, ℕ, List, [], Option, map, slice_get, unwrap_or}
use Rattle.std.specs.List.{AllZip}
use Rattle.std.specs.BTreeMap as tree
use Rattle.std.specs.Ordering.{nat_cmp}
use Rattle.jfr_layout.specs.declared.index.Index.{Index}
use Rattle.jfr_layout.specs.declared.kind.Kind.{Kind}
use Rattle.jfr_layout.specs.declared.class_layout.ClassLayout.{ClassLayout}
use Rattle.jfr_layout.specs.Fused.{AreFused}
use Rattle.jfr_layout.specs.Classes.{Class, Classes, AreFieldLayouts, class_index, extends_event, kind_of, repeats, unknown}

-- The answer to the look-up of an id: the direct table's, or the map's past the end of the table.
abbrev pub index_in : Index → ℕ → Option ℕ
index_in by_id id = unwrap_or (slice_get by_id.near.items id) (tree.get nat_cmp by_id.far id)

-- The look-up of each id gives the index of its class.
pub record IsIndex (k : Classes) (by_id : Index) : Type 0 where
  pub at : (id : ℕ) → index_in by_id id ≡ class_index k id

-- The layout of a class has those of its fields, its groups of fused fields, and whether it extends the class
-- of events.
pub record IsClassLayout (k : Classes) (c : Class) (class_layout : ClassLayout) : Type 0 where
  pub layouts : AreFieldLayouts k c.fields class_layout.layouts.items
  pub fused_fields : AreFused class_layout.layouts.items class_layout.fused_fields.items
  pub event : class_layout.is_event ≡ extends_event c

-- The layouts of these classes, in order.
abbrev pub AreClassLayouts : Classes → List Class → List ClassLayout → Type 0
AreClassLayouts k cs class_layouts = AllZip (IsClassLayout k) cs class_layouts

-- No ids and no field names within a class repeat, fields' classes are known, and the tables are those of the
-- list.
pub record IsResolved (k : Classes) (index : Index) (kinds : List Kind) (class_layouts : List ClassLayout) : Type 0 where
  pub once : repeats k ≡ []
  pub known : unknown k ≡ []
  pub by_id : IsIndex k index
  pub kind_each : kinds ≡ map (λ c. kind_of c.name) k
  pub class_layout_each : AreClassLayouts k k class_layouts
