-- The parts of a job, as document 01 lists them; its limits; and the values that its one-byte fields name. Definitions only.
pub use Rattle.spec.specs.declared.Font.{Font}
pub use Rattle.spec.specs.declared.Glyph.{Glyph}
pub use Rattle.spec.specs.declared.Span.{Span}
pub use Rattle.spec.specs.declared.BaselineShift.{BaselineShift}
use Rattle.spec.specs.declared.Limits.{Limits}
use Rattle.std.specs.Prelude.{ℕ, ◌/◌, ◌%◌, Bool, not, ◌&&◌, List, map, get_or, eqb, pos, Float}
use Rattle.spec.specs.Single.{+0}

-- a shift row: its kind, 0 to 3, and the float that kind 3 carries
pub record Shift : Type 0 where
  pub kind : ℕ
  pub number : Float

-- a span with its shifts and glyphs
pub record SpanParts : Type 0 where
  pub span : Span
  pub shifts : List Shift
  pub glyphs : List Glyph

pub record Chunk : Type 0 where
  pub flags : ℕ
  pub x : Float
  pub y : Float
  pub anchor : ℕ
  pub flow : ℕ
  pub text : List ℕ
  pub parts : List SpanParts

pub record Job : Type 0 where
  pub mode : ℕ
  pub fonts : List Font
  pub dx : List Float
  pub dy : List Float
  pub rotate : List Float
  pub chunks : List Chunk

-- ---- limits: the associated constants of the code's job type are these (`Job::limits`)

abbrev pub limits : Limits
limits =
    record { bytes = 65536; fonts = 16; list = 4096; chunks = 16; text = 4096; spans = 32; shifts = 8; glyphs = 1024; merged = 1024 }

-- the record version that is read
abbrev pub job_version : ℕ
job_version = 1

-- ---- values of one-byte fields

-- writing mode: left to right, top to bottom
abbrev pub left_to_right : ℕ
left_to_right = 0

abbrev pub top_to_bottom : ℕ
top_to_bottom = 1

-- anchor
abbrev pub anchor_start : ℕ
anchor_start = 0

abbrev pub anchor_middle : ℕ
anchor_middle = 1

abbrev pub anchor_end : ℕ
anchor_end = 2

-- flow: straight lines only
abbrev pub flow_linear : ℕ
flow_linear = 0

-- adjust: Spacing; SpacingAndGlyphs; the natural length, as SVG has it (letter and word spacing count)
abbrev pub adjust_spacing : ℕ
adjust_spacing = 0

abbrev pub adjust_spacing_and_glyphs : ℕ
adjust_spacing_and_glyphs = 1

abbrev pub adjust_natural : ℕ
adjust_natural = 2

-- the font byte of a span with no font
abbrev pub no_font : ℕ
no_font = 255

-- a chunk's flags: 1 x present, 2 y present
abbrev pub has_x : Chunk → Bool
has_x c = eqb (c.flags % 2) 1

abbrev pub has_y : Chunk → Bool
has_y c = eqb (c.flags / 2 % 2) 1

-- the span has a text length
abbrev pub has_length : Span → Bool
has_length s = eqb s.fixed 1

-- it has one that changes advances: SpacingAndGlyphs does not
abbrev pub spreads : Span → Bool
spreads s = has_length s && not (eqb s.adjust adjust_spacing_and_glyphs)

-- ---- rows by their place; what stands past the end of a list is never asked for in a job that passes the checks

abbrev pub spans_of : Chunk → List Span
spans_of c = map (λ (p : SpanParts). p.span) c.parts

abbrev pub blank_font : Font
blank_font =
    record { units = 1; ascent = pos 0; descent = pos 0; xheight = 1; underline = pos 0; thickness = 1; through = pos 0; subscript = pos 0; superscript = pos 0 }

abbrev pub font_at : List Font → ℕ → Font
font_at fonts b = get_or fonts b blank_font

abbrev pub blank_span : Span
blank_span =
    record { start = 0; end = 0; font = no_font; size = +0; letter = +0; word = +0; fixed = 0; length = +0; adjust = adjust_spacing; dominant = 0; alignment = 0; decorations = 0 }

abbrev pub span_at : List Span → ℕ → Span
span_at spans k = get_or spans k blank_span
