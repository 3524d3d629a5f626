-- A record that is written anew is read back as a record by itself.
use Rattle.std.specs.Prelude.{◌≡◌, ℕ, ◌<◌, ◌≤◌, List, length}
use Rattle.std.specs.List.{AllByRecursion}
use Rattle.jfr_base.specs.Formats.{Reads}
use Rattle.jfr_meta.specs.Trees.{Tree}
use Rattle.jfr_meta.specs.Body.{Body, meta_format}
use Rattle.jfr_meta.specs.Written.{IsText, table_bytes, depth, HasIndices, bare}
use Rattle.jfr_frame.specs.Records.{IsRecord}
use Rattle.jfr_meta.specs.Slimmed.{bytes_of_body}
use Rattle.jfr_laws.proofs.OutputRecords.{own_frame}
use Rattle.jfr_meta.proofs.ReadBack.{stands_alone}

-- The bytes are a record by themselves, which holds the body, but for the places in its tree.
pub record StandsAnew (x : List ℕ) (b : Body) : Type 0 where
  pub is_record : IsRecord x (own_frame x)
  pub tree : Tree
  pub same : bare tree ≡ bare b.root
  pub body : Reads meta_format x (length x) 6 (record { start = b.start; duration = b.duration; id = b.id; strings = b.strings; root = tree }) (length x)
  pub long : 6 ≤ length x

module _ (start duration id : ℕ) (strings : List (List ℕ)) (root : Tree) (x : List ℕ) where
  pub read_back : HasIndices (length strings) root → depth root ≤ 16 → length (table_bytes strings root) < 536870912 → AllByRecursion IsText strings
      → x ≡ bytes_of_body (record { start = start; duration = duration; id = id; strings = strings; root = root })
      → StandsAnew x (record { start = start; duration = duration; id = id; strings = strings; root = root })
  read_back good shallow small texts e =
      let w = stands_alone start duration id strings root x good shallow small texts e in
      record { is_record = w.is_record; tree = w.tree; same = w.same; body = w.body; long = w.long }
