-- The names of some parts.
use Rattle.std.specs.Prelude.{◌≡◌, codes, Some, None, true, false, refl}
use Rattle.jfr_split.specs.Names.{is_joined, part_name, stem}

-- In a folder: the file's name without its folders and without `.jfr`, and the number in six digits.
in_folder_row : part_name (Some (codes "parts")) (codes "logs/run.jfr") 1 ≡ codes "parts/run_000001.jfr"
unfolding part_name stem
in_folder_row = refl

-- Without a folder.
no_folder_row : part_name None (codes "/tmp/run.jfr") 42 ≡ codes "run_000042.jfr"
unfolding part_name stem
no_folder_row = refl

last_number_row : part_name None (codes "run.jfr") 999999 ≡ codes "run_999999.jfr"
unfolding part_name stem
last_number_row = refl

-- Only a final `.jfr` is removed, and only if something comes before it.
other_suffix_row : part_name None (codes "run.jfr.old") 7 ≡ codes "run.jfr.old_000007.jfr"
unfolding part_name stem
other_suffix_row = refl

suffix_alone_row : part_name (Some (codes "parts")) (codes "logs/.jfr") 7 ≡ codes "parts/.jfr_000007.jfr"
unfolding part_name stem
suffix_alone_row = refl

two_suffixes_row : part_name None (codes "run.jfr.jfr") 7 ≡ codes "run.jfr_000007.jfr"
unfolding part_name stem
two_suffixes_row = refl

-- Files that are joined are in the folder itself, and their names end in `.jfr`.
joined_row : is_joined (codes "parts") (codes "parts/run_000001.jfr") ≡ true
unfolding is_joined
joined_row = refl

deeper_row : is_joined (codes "parts") (codes "parts/old/run_000001.jfr") ≡ false
unfolding is_joined
deeper_row = refl

other_folder_row : is_joined (codes "parts") (codes "other/run_000001.jfr") ≡ false
unfolding is_joined
other_folder_row = refl

other_end_row : is_joined (codes "parts") (codes "parts/run.txt") ≡ false
unfolding is_joined
other_end_row = refl
