-- What the reader of a record finds at a position of the form.
pub mod Found
