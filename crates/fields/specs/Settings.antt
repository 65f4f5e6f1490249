-- The settings that a head's line names. A middle layer: what a head names is `head_of` of sheet/Sheet.
use Rattle.std.specs.Prelude.{ℕ, List}
use Rattle.codec.specs.Codec.{current}
use Rattle.settings.specs.declared.settings.Settings.{Settings}
use Rattle.hexadecimal.specs.Bytes.{byte_at}
use Rattle.sheet.specs.Sheet.{span_place, default_place, dealer_place, depth_place}
use Rattle.text.specs.Text.{number_from}

abbrev pub line_settings : List ℕ → Settings
line_settings line = record {
  dealer = byte_at line (dealer_place current);
  span = number_from current line (span_place current);
  default = number_from current line (default_place current);
  depth = byte_at line (depth_place current);
}
