-- A chunk's own fields, without its text and spans. Definitions only.
use Rattle.std.specs.Prelude.{List, ℕ, drop}
use Rattle.spec.specs.Bytes.{be, float}
use Rattle.spec.specs.Decode.{text_size, span_count}
use Rattle.job_rows.specs.declared.rows.ChunkHead.{ChunkHead}

unfoldable pub head_of : List ℕ → ChunkHead
head_of bs =
    record {
      flags = be 1 bs;
      x = float (drop 1 bs);
      y = float (drop 5 bs);
      anchor = be 1 (drop 9 bs);
      flow = be 1 (drop 10 bs);
      text = text_size bs;
      spans = span_count bs;
    }
