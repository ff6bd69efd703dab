-- Two scans that say the same have the same records, parts, planes, counts and refusals, places aside. Assumes nothing.
use Rattle.equivalent.specs.Claims.{AllEquivalent}
use Rattle.equivalent.proofs.Records.{tiles-same, attachments-same, tile-verdict-same, dimension-verdict-same, attachment-verdict-same}
use Rattle.equivalent.proofs.Records.{tile-same, dimension-record-same, listed_same}
use Rattle.equivalent.proofs.Records.{tile-pixels-same, tile-metadata-same, tile-attachment-same, attached-same, common-xml-same, common-attachment-same}
use Rattle.equivalent.proofs.Calls.{calls}

pub all-equivalent : AllEquivalent
all-equivalent a b s = record {
  tiles = tiles-same a b s;
  attachments = attachments-same a b s;
  tile_refusal = tile-verdict-same a b s;
  dimension_refusal = dimension-verdict-same a b s;
  attachment_refusal = attachment-verdict-same a b s;
  version = s.version;
  guids = s.guids;
  tile = tile-same a b s;
  dimension = λ n k h. dimension-record-same a b s n h k;
  listed = listed_same a b s;
  pixels = tile-pixels-same a b s;
  metadata = tile-metadata-same a b s;
  attachment = tile-attachment-same a b s;
  attached = attached-same a b s;
  xml = common-xml-same a b s;
  xml_attachment = common-attachment-same a b s;
  calls = calls s;
}
