mod PromiseLaws
pub mod ReceiptLaws
