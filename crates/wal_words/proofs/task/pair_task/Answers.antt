use Rattle.wal_words.proofs.Common.{codes, identify, encode, read, check, sample, image, bundle, gateway}
use Rattle.wal_words.proofs.Rows.{named_row}
use Rattle.wal_words.proofs.task.pair_task.Goals as goal

pub returns-in_ok-read_small-in-id-clause-found : goal.returns-in_ok-read_small-in-id-clause-found
returns-in_ok-read_small-in-id-clause-found c =
    named_row _ (codes "id") _ _ _ c.in-id.is (identify c.args.value.now c.in_ok-read_small-in-id.field-0 (c.in_ok-read_small-in-id.ensures.found))

pub returns-in_ok-read_small-in-encode-clause-found : goal.returns-in_ok-read_small-in-encode-clause-found
returns-in_ok-read_small-in-encode-clause-found c =
    named_row _ (codes "encode") _ _ _ c.in-encode.is (encode c.args.value.now c.in_ok-read_small-in-encode.field-0 (c.in_ok-read_small-in-encode.ensures.found))

pub returns-in_ok-read_identifier-in-read-clause-found : goal.returns-in_ok-read_identifier-in-read-clause-found
returns-in_ok-read_identifier-in-read-clause-found c =
    named_row _ (codes "read") _ _ _ c.in-read.is (read c.args.value.now c.in_ok-read_identifier-in-read.field-0 (c.in_ok-read_identifier-in-read.ensures.found))

pub returns-in_ok-read_identifier-in-check-clause-found : goal.returns-in_ok-read_identifier-in-check-clause-found
returns-in_ok-read_identifier-in-check-clause-found c =
    named_row _ (codes "check") _ _ _ c.in-check.is (check c.args.value.now c.in_ok-read_identifier-in-check.field-0 (c.in_ok-read_identifier-in-check.ensures.found))

pub returns-in_ok-read_number-in-sample-clause-found : goal.returns-in_ok-read_number-in-sample-clause-found
returns-in_ok-read_number-in-sample-clause-found c =
    named_row _ (codes "sample") _ _ _ c.in-sample.is (sample c.args.value.now c.in_ok-read_number-in-sample.field-0 (c.in_ok-read_number-in-sample.ensures.found))

pub returns-in_ok-read_small-in-image-clause-found : goal.returns-in_ok-read_small-in-image-clause-found
returns-in_ok-read_small-in-image-clause-found c =
    named_row _ (codes "image") _ _ _ c.in-image.is (image c.args.value.now c.in_ok-read_small-in-image.field-0 (c.in_ok-read_small-in-image.ensures.found))

pub returns-in_ok-read_small-in-bundle-clause-found : goal.returns-in_ok-read_small-in-bundle-clause-found
returns-in_ok-read_small-in-bundle-clause-found c =
    named_row _ (codes "bundle") _ _ _ c.in-bundle.is (bundle c.args.value.now c.in_ok-read_small-in-bundle.field-0 (c.in_ok-read_small-in-bundle.ensures.found))

pub returns-in_ok-read_small-in-gateway-clause-found : goal.returns-in_ok-read_small-in-gateway-clause-found
returns-in_ok-read_small-in-gateway-clause-found c =
    named_row _ (codes "gateway") _ _ _ c.in-gateway.is (gateway c.args.value.now c.in_ok-read_small-in-gateway.field-0 (c.in_ok-read_small-in-gateway.ensures.found))
