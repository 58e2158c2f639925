-- Lines out of chunks: a line goes up to its line feed, and its first 16,640 bytes are kept; no good line is longer.
use Rattle.std.specs.Prelude.{ℕ, ◌+◌, ◌-◌, min, cond, false, List, leb, eqb, length, get_or, take, drop}
use Rattle.ascii.specs.Ascii.{line_feed, through}
use Rattle.listing.specs.declared.lines.Collected.{Collected}

abbrev pub kept : ℕ → ℕ
kept n = min 16640 n

-- how many bytes of the chunk, from a place on, belong to the line
unfoldable pub line_length : List ℕ → ℕ → ℕ
line_length chunk from = through (drop from chunk) line_feed

unfoldable pub line_bytes : List ℕ → ℕ → List ℕ
line_bytes chunk from = take (line_length chunk from) (drop from chunk)

-- from the end of the chunk on there is nothing
unfoldable pub collect_of : List ℕ → ℕ → ℕ → Collected
collect_of chunk from have =
    cond (leb (length chunk) from)
    (record { next = from; have = kept have; is_ended = false })
    (record {
      next = from + line_length chunk from;
      have = kept (have + line_length chunk from);
      is_ended = eqb (get_or chunk (from + line_length chunk from - 1) 0) line_feed;
    })
